-- Turns of the loop over the parts of a string: what was read is as good, as many and as large as the parts so far.
use Prim.Native.Nat.{ℕ, zero, suc, ◌+◌, ◌*◌, ◌%◌, ◌^◌, ◌≤◌, ◌<◌}
use mathlib.Core.Path.{◌≡◌, refl, sym, ap, ap₂, ◌∙◌}
use mathlib.Core.Bool.{Bool, true, false, cond, and-false, false≢true}
use mathlib.Core.List.{List, [], ◌∷◌, ◌++◌}
use native.Mathlib.Nat.{mod-mod}
use native.Mathlib.Omega.{arith}
use lib.ListN.{length, get_or}
use lib.Dec.{eqb}
use Rattle.std.specs.List.{slice_split, onto_first}
use Rattle.paper.specs.Numbers.{digits_after}
use Rattle.paper.specs.Addresses.{Scheme, ipv4, ipv6, mac, every, parts, into_first, value_of}
use Rattle.spelling.proofs.Tests.{and_both}
use Rattle.addresses.specs.Reads.{separates, is_part, base_of, scale_of, numbers, parts_of}
use Rattle.addresses.proofs.Digits.{digit_mod, after_append}

-- the library cuts a slice as the paper cuts a string

first_more : (b : ℕ) (ps : List (List ℕ)) → onto_first b ps ≡ into_first b ps
first_more b [] = refl
first_more b (p ∷ ps) = refl

pub split_parts : (sep : ℕ → Bool) (s : List ℕ) → slice_split sep s ≡ parts sep s
split_parts sep [] = refl
split_parts sep (b ∷ s) = rw (split_parts sep s) (ap (λ more. cond (sep b) ([] ∷ parts sep s) more) (first_more b (parts sep s)))

-- a bad part among them
pub one_bad : (k : Scheme) (ps : List (List ℕ)) (n : ℕ) (p : List ℕ) → n < length ps → p ≡ get_or ps n p → is_part k p ≡ false
    → every (is_part k) ps ≡ false
one_bad k [] n p l e bad = absurd (omega arith)
one_bad k (q ∷ ps) zero p l e bad = rw (← e, bad) refl
one_bad k (q ∷ ps) (suc n) p l e bad = rw (one_bad k ps n p (omega arith) e bad) (and-false (is_part k q))

-- a good one after them

every_more : (k : Scheme) (ps : List (List ℕ)) (p : List ℕ) → every (is_part k) ps ≡ true → is_part k p ≡ true
    → every (is_part k) (ps ++ p ∷ []) ≡ true
every_more k [] p e g = rw g refl
every_more k (q ∷ ps) p e g = let f = and_both (is_part k q) (every (is_part k) ps) e in rw (f.0, every_more k ps p f.1 g) refl

numbers_more : (k : Scheme) (ps : List (List ℕ)) (p : List ℕ) → numbers k (ps ++ p ∷ []) ≡ numbers k ps ++ value_of (base_of k) p ∷ []
numbers_more k [] p = refl
numbers_more k (q ∷ ps) p = ap (λ l. value_of (base_of k) q ∷ l) (numbers_more k ps p)

-- the parts that were read after a number
abbrev pub Read : Scheme → ℕ → List (List ℕ) → ℕ → Type 0
Read k before ps n = (every (is_part k) ps ≡ true) × (n ≡ digits_after (scale_of k) before (numbers k ps) % 2 ^ 128)

pub read_more : (k : Scheme) (before : ℕ) (ps : List (List ℕ)) (n : ℕ) (p : List ℕ) {by base d m : ℕ} → Read k before ps n → is_part k p ≡ true
    → by ≡ scale_of k → base ≡ base_of k → d ≡ value_of base p → m ≡ (n * by + d) % 2 ^ 128 → Read k before (ps ++ p ∷ []) m
read_more k before ps n p w g scale base digits put =
    let v = value_of (base_of k) p in
    let all = digits_after (scale_of k) before (numbers k ps) in (
      every_more k ps p w.0 g,
      put ∙ ap₂ (λ (by d : ℕ). (n * by + d) % 2 ^ 128) scale (digits ∙ ap (λ (base : ℕ). value_of base p) base)
          ∙ digit_mod (scale_of k) (2 ^ 128) n all v (ap (λ x. x % 2 ^ 128) w.1 ∙ mod-mod _ _)
          ∙ ap (λ x. x % 2 ^ 128) (sym (ap (digits_after (scale_of k) before) (numbers_more k ps p) ∙ after_append (scale_of k) (numbers k ps) (v ∷ []) before)),
    )

-- good parts are no more than the string has bytes

no_part : (k : Scheme) → is_part k [] ≡ true → ⊥
no_part ipv4 e = false≢true e
no_part ipv6 e = false≢true e
no_part mac e = false≢true e

parts_many : (sep : ℕ → Bool) (s : List ℕ) → length (parts sep s) ≤ length s + 1
parts_many sep [] = omega arith
parts_many sep (b ∷ s) = go (sep b) (parts sep s) (parts_many sep s)
  where
    go : (t : Bool) (ps : List (List ℕ)) → length ps ≤ length s + 1 → length (cond t ([] ∷ ps) (into_first b ps)) ≤ suc (length s) + 1
    go true ps h = omega arith
    go false [] h = omega arith
    go false (p ∷ ps) h = omega arith

pub parts_few : (k : Scheme) (s : List ℕ) → every (is_part k) (parts_of k s) ≡ true → length (parts_of k s) ≤ length s
parts_few k [] e = absurd (no_part k (and_both (is_part k []) true e).0)
parts_few k (b ∷ s) e = go (eqb b (separates k)) (parts_of k s) (parts_many (λ b. eqb b (separates k)) s) e
  where
    go : (t : Bool) (ps : List (List ℕ)) → length ps ≤ length s + 1 → every (is_part k) (cond t ([] ∷ ps) (into_first b ps)) ≡ true
        → length (cond t ([] ∷ ps) (into_first b ps)) ≤ suc (length s)
    go true ps h e = absurd (no_part k (and_both (is_part k []) (every (is_part k) ps) e).0)
    go false [] h e = omega arith
    go false (p ∷ ps) h e = omega arith
