-- In the tree of a text all places of a left operand come before those of the right one.
use Prim.Native.Nat.{ℕ, suc, ◌≤◌, ◌<◌}
use native.Mathlib.Nat.{le_refl}
use native.Mathlib.Omega.{arith}
use mathlib.Core.Path.{◌≡◌}
use mathlib.Core.List.{List, [], ◌∷◌, ◌++◌}
use lib.ListN.{length}
use Rattle.paper.specs.Answers.{ok}
use Rattle.paper.specs.Tokens.{join, comparison, closing, Token, tokens}
use Rattle.paper.specs.Grammar.{Tree, truth, number, key, field, attribute, prefixed, joined, compared, place_of, parsed}
use Rattle.paper.specs.Sentences.{sign_at}
use Rattle.paper.specs.Places.{Everywhere, Rising}
use Rattle.paper.specs.Calls.{tree}
use Rattle.paper.proofs.Stages.{bind_ok}
use Rattle.paper.proofs.Refusals.{read_is_valid}
use Rattle.paper.proofs.Offsets.{offsets_rise}
use Rattle.paper.proofs.Phrases.{HandedOn, valid_has}

abbrev Apart : Tree → Tree → Type 0
Apart l r = Everywhere (λ p. Everywhere (λ q. p < q) r) l

abbrev pub InOrder : Tree → Type 0
InOrder (truth at b) = Unit {0}
InOrder (number at n) = Unit {0}
InOrder (key at w) = Unit {0}
InOrder (field at w to f) = Unit {0}
InOrder (attribute at to f) = Unit {0}
InOrder (prefixed at o t) = InOrder t
InOrder (joined at o l r) = Apart l r × InOrder l × InOrder r
InOrder (compared at c l r) = Apart l r × InOrder l × InOrder r

-- a tree's own place is one of its places
pub root_place : (P : ℕ → Type 0) (t : Tree) → Everywhere P t → P (place_of t)
root_place P (truth at b) h = h
root_place P (number at n) h = h
root_place P (key at w) h = h
root_place P (field at w to f) h = h.0
root_place P (attribute at to f) h = h.0
root_place P (prefixed at o t) h = h.0
root_place P (joined at o l r) h = h.0
root_place P (compared at c l r) h = h.0

pub everywhere : (P Q : ℕ → Type 0) → ((p : ℕ) → P p → Q p) → (t : Tree) → Everywhere P t → Everywhere Q t
everywhere P Q f (truth at b) h = f at h
everywhere P Q f (number at n) h = f at h
everywhere P Q f (key at w) h = f at h
everywhere P Q f (field at w to g) h = (f at h.0, f to h.1)
everywhere P Q f (attribute at to g) h = (f at h.0, f to h.1)
everywhere P Q f (prefixed at o t) h = (f at h.0, everywhere P Q f t h.1)
everywhere P Q f (joined at o l r) h = (f at h.0, everywhere P Q f l h.1, everywhere P Q f r h.2)
everywhere P Q f (compared at c l r) h = (f at h.0, everywhere P Q f l h.1, everywhere P Q f r h.2)

-- places from a first one on and below a last one

abbrev Within : ℕ → ℕ → ℕ → Type 0
Within from below p = (from ≤ p) × (p < below)

wider : (from below first last : ℕ) → first ≤ from → below ≤ last → (t : Tree)
    → Everywhere (Within from below) t → Everywhere (Within first last) t
wider from below first last a b = everywhere (Within from below) (Within first last) (λ p h. omega arith)

apart : (from mid later below : ℕ) (l r : Tree) → mid ≤ later
    → Everywhere (Within from mid) l → Everywhere (Within later below) r → Apart l r
apart from mid later below l r a h g =
    everywhere (Within from mid) (λ p. Everywhere (λ q. p < q) r)
    (λ p x. everywhere (Within later below) (λ q. p < q) (λ q y. omega arith) r g) l h

-- offsets that rise along two lists of tokens rise up to a middle and from it on
record Middle (from below : ℕ) (xs ys : List Token) : Type 0 where
  mid : ℕ
  later : from ≤ mid
  front : Rising from mid xs
  back : Rising mid below ys

middle : (from below : ℕ) (xs ys : List Token) → Rising from below (xs ++ ys) → Middle from below xs ys
middle from below [] ys h = record { mid = from; later = le_refl from; front = tt; back = h }
middle from below (x ∷ xs) ys h =
    let m = middle (suc x.at) below xs ys h.2 in
    record { mid = m.mid; later = omega (arith, m.later, h.0); front = (h.0, m.later, m.front); back = m.back }

-- of a phrase, wherever its tokens rise

record Orderly (from below : ℕ) (t : Tree) : Type 0 where
  within : Everywhere (Within from below) t
  ordered : InOrder t

abbrev Fit : Tree → List Token → Type 0
Fit t ts = (from below : ℕ) → Rising from below ts → Orderly from below t

looser : (from below first last : ℕ) (t : Tree) → first ≤ from → below ≤ last → Orderly from below t → Orderly first last t
looser from below first last t a b h = record { within = wider from below first last a b t h.within; ordered = h.ordered }

-- what stands before a token
front_fits : (t : Tree) (ts : List Token) (u : Token) (from below : ℕ) → Fit t ts → Rising from below (ts ++ (u ∷ []))
    → Orderly from below t
front_fits t ts u from below h rising =
    let m = middle from below ts (u ∷ []) rising in
    looser from m.mid from below t (le_refl from) (omega (arith, m.back.0, m.back.1)) (h from m.mid m.front)

-- two operands and the operator between them
record Between (from at below : ℕ) (l r : Tree) : Type 0 where
  left : Orderly from below l
  right : Orderly from below r
  here : Within from below at
  apart : Apart l r

between : (l r : Tree) (ls rs : List Token) (u : Token) (from below : ℕ) → Fit l ls → Fit r rs → Rising from below (ls ++ (u ∷ rs))
    → Between from u.at below l r
between l r ls rs u from below h g rising =
    let m = middle from below ls (u ∷ rs) rising in
    let a = h from m.mid m.front in
    let b = g (suc u.at) below m.back.2 in
    record {
      left = looser from m.mid from below l (le_refl from) (omega (arith, m.back.0, m.back.1)) a;
      right = looser (suc u.at) below from below r (omega (arith, m.later, m.back.0)) (le_refl below) b;
      here = (omega (arith, m.later, m.back.0), m.back.1);
      apart = apart from m.mid (suc u.at) below l r (omega (arith, m.back.0)) a.within b.within;
    }

handed_on : HandedOn Fit
handed_on =
    record {
      of_truth = λ at b w from below h. record { within = (h.0, h.1); ordered = tt };
      of_numeral = λ at n from below h. record { within = (h.0, h.1); ordered = tt };
      of_address = λ at w a b c q n from below h. record { within = (h.0, h.1); ordered = tt };
      of_key = λ at w from below h. record { within = (h.0, h.1); ordered = tt };
      of_field = λ at w a to f from below h.
          record {
            within = ((h.0, h.1), (omega (arith, h.0, h.2.0, h.2.2.0), h.2.2.1));
            ordered = tt;
          };
      of_attribute = λ at to f from below h.
          record { within = ((h.0, h.1), (omega (arith, h.0, h.2.0), h.2.1)); ordered = tt };
      of_prefix = λ at o t ts g from below h.
          let inner = looser (suc at) below from below t (omega (arith, h.0)) (le_refl below) (g (suc at) below h.2) in
          record { within = ((h.0, h.1), inner.within); ordered = inner.ordered };
      of_parenthesis = λ at to t ts g from below h.
          looser (suc at) below from below t (omega (arith, h.0)) (le_refl below)
          (front_fits t ts (sign_at to closing) (suc at) below g h.2);
      of_join = λ at o l r ls rs g k from below h.
          let b = between l r ls rs (sign_at at (join o)) from below g k h in
          record {
            within = (b.here, b.left.within, b.right.within);
            ordered = (b.apart, b.left.ordered, b.right.ordered);
          };
      of_comparison = λ at c l r ls rs g k from below h.
          let b = between l r ls rs (sign_at at (comparison c)) from below g k h in
          record {
            within = (b.here, b.left.within, b.right.within);
            ordered = (b.apart, b.left.ordered, b.right.ordered);
          };
      of_trailing = λ t ts u g from below h. front_fits t ts u from below g h;
    }

pub text_in_order : (text : List ℕ) (t : Tree) → tree text ≡ ok t → InOrder t
unfolding tree
text_in_order text t h =
    let (ts, cut, read) = bind_ok (tokens text) (parsed (length text)) t h in
    (valid_has Fit handed_on t ts ((read_is_valid (length text) ts t).0 read) 0 (length text) (offsets_rise text ts cut)).ordered
