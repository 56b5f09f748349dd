-- No phrase has fewer tokens or levels than the print of its tree, since each parenthesis of the print is one that the rung asks for;
-- and the tree of good tokens is clean.
use Prim.Native.Nat.{ℕ, zero, suc, ◌+◌, ◌^◌, ◌≤◌, ◌<◌, zero-le}
use native.Mathlib.Nat.{max-le}
use native.Mathlib.Omega.{arith}
use mathlib.Core.Path.{◌≡◌, refl, subst}
use mathlib.Core.Bool.{Bool, true, false}
use mathlib.Core.List.{List, [], ◌∷◌, ◌++◌}
use lib.ListN.{length, length-append}
use borrow.Author.Tests.{ltb-true, ltb-false, le-ltb}
use Rattle.paper.specs.Tokens.{Join, sequel, implies, or_else, and_also, Comparison, join, comparison, closing, Token}
use Rattle.paper.specs.Addresses.{address}
use Rattle.paper.specs.Grammar.{Tree, joined, compared}
use Rattle.paper.specs.Sentences.{Phrases, sign_at, Joining, joining, Comparing, comparing, Once, none_of, one_of, Chain, first, further, Operand, a_true, a_false, a_numeral, an_address, a_key, a_field, an_attribute, a_prefixed, a_parenthesis, Implication, Sequence, Prefixed, without, trailing, Whole}
use Rattle.paper.proofs.Basics.{If}
use Rattle.paper.proofs.TokenNumbers.{AllGood}
use Rattle.paper.proofs.AddressNumbers.{address_fits}
use Rattle.paper.specs.Print.{tightest, rung, rung_of, left_of, right_of, looser}
use Rattle.paper.specs.Sized.{deeper, wider, levels, count, Clean}

good_left : (xs ys : List Token) → AllGood (xs ++ ys) → AllGood xs
good_left [] ys h = tt
good_left (x ∷ xs) ys h = (h.0, good_left xs ys h.1)

good_right : (xs ys : List Token) → AllGood (xs ++ ys) → AllGood ys
good_right [] ys h = h
good_right (x ∷ xs) ys h = good_right xs ys h.1

-- where a rung is asked for

abbrev levels_at : ℕ → Tree → ℕ
levels_at k t = deeper (looser k t) (levels t)

abbrev count_at : ℕ → Tree → ℕ
count_at k t = wider (looser k t) (count t)

pub record Fits (l k : ℕ) (t : Tree) (ts : List Token) : Type 0 where
  pub deep : levels_at k t ≤ l
  pub many : count_at k t ≤ length ts
  pub clean : AllGood ts → Clean t

grows : (k j : ℕ) (t : Tree) → k ≤ j → (levels_at k t ≤ levels_at j t) × (count_at k t ≤ count_at j t)
grows k j t le = go (looser k t) (looser j t) refl refl
  where
    go : (a b : Bool) → looser k t ≡ a → looser j t ≡ b
        → (deeper a (levels t) ≤ deeper b (levels t)) × (wider a (count t) ≤ wider b (count t))
    go true true e f = (omega arith, omega arith)
    go true false e f = absurd (omega (arith, ltb-true (rung t) k e, ltb-false (rung t) j f))
    go false true e f = (omega arith, omega arith)
    go false false e f = (omega arith, omega arith)

weaken : (l k j : ℕ) (t : Tree) (ts : List Token) → k ≤ j → Fits l j t ts → Fits l k t ts
weaken l k j t ts le h =
    let g = grows k j t le in
    record { deep = omega (arith, g.0, h.deep); many = omega (arith, g.1, h.many); clean = h.clean }

-- on no rung are parentheses needed where the loosest is asked for
pub at_top : (t : Tree) → looser 0 t ≡ false
at_top t = le-ltb (rung t) 0 (omega arith)

-- operators

join_fits : (l : ℕ) (o : Join) (at : ℕ) (x y : Tree) (xs ys : List Token) → Fits l (left_of o) x xs → Fits l (right_of o) y ys
    → Fits l (rung_of o) (joined at o x y) (xs ++ (sign_at at (join o) ∷ ys))
join_fits l o at x y xs ys h g =
    let u = sign_at at (join o) in
    let same : looser (rung_of o) (joined at o x y) ≡ false = le-ltb (rung_of o) (rung_of o) (omega arith) in
    record {
      deep = rw same (max-le h.deep g.deep);
      many = rw same (omega (arith, h.many, g.many, length-append xs (u ∷ ys)));
      clean = λ a. (h.clean (good_left xs (u ∷ ys) a), g.clean (good_right xs (u ∷ ys) a).1);
    }

comparison_fits : (l : ℕ) (c : Comparison) (at : ℕ) (x y : Tree) (xs ys : List Token) → Fits l 5 x xs → Fits l 5 y ys
    → Fits l 4 (compared at c x y) (xs ++ (sign_at at (comparison c) ∷ ys))
comparison_fits l c at x y xs ys h g =
    let u = sign_at at (comparison c) in
    record {
      deep = max-le h.deep g.deep;
      many = omega (arith, h.many, g.many, length-append xs (u ∷ ys));
      clean = λ a. (h.clean (good_left xs (u ∷ ys) a), g.clean (good_right xs (u ∷ ys) a).1);
    }

abbrev Has : ℕ → ℕ → Phrases → Type 0
Has l k S = (t : Tree) (ts : List Token) → S t ts → Fits l k t ts

chain_fits : (l : ℕ) (o : Join) (S : Phrases) → left_of o ≡ rung_of o → rung_of o ≤ right_of o → Has l (right_of o) S
    → Has l (rung_of o) (Chain (Joining o) S)
chain_fits l o S e le h t ts (first g) = weaken l (rung_of o) (right_of o) t ts le (h t ts g)
chain_fits l o S e le h t ts (further {l = x} {r = y} {ls = xs} {rs = ys} c (joining at) g) =
    join_fits l o at x y xs ys (rw e (chain_fits l o S e le h x xs c)) (h y ys g)

module _ (l : ℕ) (S : Phrases) (below : Has l 5 S) where
  compared_fits : Has l 4 (Once Comparing S)
  compared_fits t ts (none_of h) = weaken l 4 5 t ts (omega arith) (below t ts h)
  compared_fits t ts (one_of {l = x} {r = y} {ls = xs} {rs = ys} h (comparing at c) g) =
      comparison_fits l c at x y xs ys (below x xs h) (below y ys g)

  or_fits : Has l 2 (Chain (Joining or_else) (Chain (Joining and_also) (Once Comparing S)))
  or_fits = chain_fits l or_else _ refl (omega arith) (chain_fits l and_also _ refl (omega arith) compared_fits)

  implies_fits : Has l 1 (Implication S)
  implies_fits t ts (none_of h) = weaken l 1 2 t ts (omega arith) (or_fits t ts h)
  implies_fits t ts (one_of {l = x} {r = y} {ls = xs} {rs = ys} h (joining at) g) =
      join_fits l implies at x y xs ys (or_fits x xs h) (or_fits y ys g)

  sequence_fits : Has l 0 (Sequence S)
  sequence_fits = chain_fits l sequel _ refl (omega arith) implies_fits

-- operands, where Inner and Outer are those of one level less
operand_fits : (l : ℕ) (Inner Outer : Phrases) → ((t : Tree) (ts : List Token) → Inner t ts → (m : ℕ) × (l ≡ suc m) × Fits m 5 t ts)
    → ((t : Tree) (ts : List Token) → Outer t ts → (m : ℕ) × (l ≡ suc m) × Fits m 0 t ts) → Has l 5 (Operand address Inner Outer)
operand_fits l Inner Outer inner outer t ts (a_true at) = record { deep = zero-le; many = omega arith; clean = λ a. tt }
operand_fits l Inner Outer inner outer t ts (a_false at) = record { deep = zero-le; many = omega arith; clean = λ a. tt }
operand_fits l Inner Outer inner outer t ts (a_numeral at n) = record { deep = zero-le; many = omega arith; clean = λ a. a.0 }
operand_fits l Inner Outer inner outer t ts (an_address at w s a b c q n scheme found) =
    record { deep = zero-le; many = omega arith; clean = λ _. subst (If (λ n. n < 2 ^ 128)) found (address_fits s q) }
operand_fits l Inner Outer inner outer t ts (a_key at w name) = record { deep = zero-le; many = omega arith; clean = λ a. (a.0, name) }
operand_fits l Inner Outer inner outer t ts (a_field at w p to f name plain) =
    record { deep = zero-le; many = omega arith; clean = λ a. (a.0, name, a.1.1.0, plain) }
operand_fits l Inner Outer inner outer t ts (an_attribute at to f plain) =
    record { deep = zero-le; many = omega arith; clean = λ a. (a.1.0, plain) }
operand_fits l Inner Outer inner outer t ts (a_prefixed {t = r} {ts = rs} at o h) =
    let (m, e, f) = inner r rs h in
    record { deep = omega (arith, e, f.deep); many = omega (arith, f.many); clean = λ a. f.clean a.1 }
operand_fits l Inner Outer inner outer t ts (a_parenthesis {ts = rs} at to h) =
    let (m, e, f) = outer t rs h in
    let d : levels t ≤ m = rw at_top at f.deep in
    let n : count t ≤ length rs = rw at_top at f.many in
    let z = length-append rs (sign_at to closing ∷ []) in
    record {
      deep = either_deep (looser tightest t) (omega arith);
      many = either_many (looser tightest t) (omega (arith, z));
      clean = λ a. f.clean (good_left rs (sign_at to closing ∷ []) a.1);
    }
  where
    either_deep : (b : Bool) → suc (levels t) ≤ l → deeper b (levels t) ≤ l
    either_deep true h = h
    either_deep false h = omega arith

    either_many : (b : Bool) {n : ℕ} → count t + 2 ≤ n → wider b (count t) ≤ n
    either_many true h = h
    either_many false h = omega arith

prefixed_fits : (l : ℕ) → Has l 5 (Prefixed address l)
unfolding Prefixed
prefixed_fits zero = operand_fits zero _ _ (λ t ts h. absurd h) (λ t ts h. absurd h)
prefixed_fits (suc l) =
    let below = prefixed_fits l in
    operand_fits (suc l) _ _ (λ t ts h. (l, refl, below t ts h)) (λ t ts h. (l, refl, sequence_fits l (Prefixed address l) below t ts h))

-- a whole text, also with a trailing ";"
pub whole_fits : (l : ℕ) → Has l 0 (Whole (Prefixed address l))
whole_fits l t ts (without h) = sequence_fits l (Prefixed address l) (prefixed_fits l) t ts h
whole_fits l t ts (trailing {ts = vs} {u = u} h o) =
    let f = sequence_fits l (Prefixed address l) (prefixed_fits l) t vs h in
    record { deep = f.deep; many = omega (arith, f.many, length-append vs (u ∷ [])); clean = λ a. f.clean (good_left vs (u ∷ []) a) }
