-- What a tree names: only keys of the list and, where it has types, no attribute but ::priority.
use Prim.Native.Nat.{ℕ, ◌≤◌, ◌<◌}
use native.Mathlib.Omega.{arith}
use mathlib.Core.Path.{◌≡◌, refl, sym, ap₂, subst}
use mathlib.Core.Logic.{◌⊎◌, inl, inr, ⊎_elim}
use mathlib.Core.Bool.{Bool, true, false, ◌||◌, true≢false}
use mathlib.Core.Option.{Option, none, some}
use mathlib.Core.List.{List}
use lib.ListN.{length}
use borrow.Author.Tests.{eqb-true}
use Rattle.paper.specs.Answers.{Answer, ok, ◌>>=◌}
use Rattle.paper.specs.Tokens.{bytes, same_bytes}
use Rattle.paper.specs.Keys.{Key, find}
use Rattle.paper.specs.Grammar.{Tree, truth, number, key, field, attribute, prefixed, joined, compared}
use Rattle.paper.specs.Types.{Ty, int, when, prefix_type, join_type, operator_type, compared_type, named_type, type_of}
use Rattle.paper.specs.Named.{is_it, names, marked}
use Rattle.paper.specs.RecheckedRight.{names_priority}
use Rattle.paper.proofs.Basics.{If}
use Rattle.paper.proofs.Stages.{never_ok, bind_ok}
use Rattle.paper.proofs.CodeInRange.{found_below}

pub either_true : (a b : Bool) → a || b ≡ true → (a ≡ true) ⊎ (b ≡ true)
either_true true b h = inl h
either_true false b h = inr h

module _ (ks : List Key) (k : ℕ) where
  it_below : (o : Option ℕ) → If (λ j. j < length ks) o → is_it k o ≡ true → k < length ks
  it_below none below h = absurd (true≢false (sym h))
  it_below (some j) below h = subst (λ (i : ℕ). i < length ks) (eqb-true j k h) below

  find_below : (w : List ℕ) → is_it k (find ks w) ≡ true → k < length ks
  find_below w h = it_below (find ks w) (found_below ks 0 (length ks) w (omega arith)) h

  pub names_below : (t : Tree) → names ks t k ≡ true → k < length ks
  unfolding names
  names_below (truth at b) h = absurd (true≢false (sym h))
  names_below (number at n) h = absurd (true≢false (sym h))
  names_below (key at w) h = find_below w h
  names_below (field at w to f) h = find_below w h
  names_below (attribute at to f) h = absurd (true≢false (sym h))
  names_below (prefixed at o t) h = names_below t h
  names_below (joined at o l r) h = ⊎_elim (names_below l) (names_below r) (either_true (names ks l k) (names ks r k) h)
  names_below (compared at c l r) h = ⊎_elim (names_below l) (names_below r) (either_true (names ks l k) (names ks r k) h)

  pub names_none_past : (t : Tree) → length ks ≤ k → names ks t k ≡ false
  names_none_past t past = go (names ks t k) refl
    where
      go : (b : Bool) → names ks t k ≡ b → b ≡ false
      go false e = refl
      go true e = absurd (omega (arith, past, names_below t e))

module _ (ks : List Key) where
  attribute_priority : (to : ℕ) (b : Bool) (a : Ty) → named_type to (when b int) ≡ ok a → true ≡ b
  attribute_priority to true a h = refl
  attribute_priority to false a h = absurd (never_ok h)

  -- both operands have types
  pub operands : (l r : Tree) (f : Ty → Ty → Answer Ty) (a : Ty) → (type_of ks l >>= λ x. type_of ks r >>= λ y. f x y) ≡ ok a
      → ((x : Ty) × (type_of ks l ≡ ok x)) × ((y : Ty) × (type_of ks r ≡ ok y))
  operands l r f a h =
      let (x, left, rest) = bind_ok (type_of ks l) (λ x. type_of ks r >>= λ y. f x y) a h in
      let (y, right, _) = bind_ok (type_of ks r) (λ y. f x y) a rest in
      ((x, left), (y, right))

  pub mark_is_priority : (t : Tree) (a : Ty) → type_of ks t ≡ ok a → marked t ≡ names_priority t
  unfolding type_of marked
  mark_is_priority (truth at b) a h = refl
  mark_is_priority (number at n) a h = refl
  mark_is_priority (key at w) a h = refl
  mark_is_priority (field at w to f) a h = refl
  mark_is_priority (attribute at to f) a h = attribute_priority to (same_bytes f (bytes "priority")) a h
  mark_is_priority (prefixed at o t) a h =
      let (x, has, _) = bind_ok (type_of ks t) (λ x. operator_type at (prefix_type o x)) a h in
      mark_is_priority t x has
  mark_is_priority (joined at o l r) a h =
      let ((x, left), (y, right)) = operands l r (λ x y. operator_type at (join_type x y)) a h in
      ap₂ (λ (p q : Bool). p || q) (mark_is_priority l x left) (mark_is_priority r y right)
  mark_is_priority (compared at c l r) a h =
      let ((x, left), (y, right)) = operands l r (compared_type at c l r) a h in
      ap₂ (λ (p q : Bool). p || q) (mark_is_priority l x left) (mark_is_priority r y right)
