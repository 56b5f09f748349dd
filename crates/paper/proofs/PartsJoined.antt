-- Trees joined by ";" from the left: what a text's tree has for its code to be written and run, each of its parts has; and parts in any order
-- make such a tree again, whose code holds at most one value more.
use Prim.Native.Nat.{ℕ, ◌+◌, ◌≤◌}
use native.Mathlib.Omega.{arith}
use mathlib.Core.Path.{◌≡◌}
use mathlib.Core.List.{List, [], ◌∷◌}
use lib.ListN.{length}
use Rattle.paper.specs.Answers.{ok}
use Rattle.paper.specs.Tokens.{sequel}
use Rattle.paper.specs.Keys.{Key}
use Rattle.paper.specs.Grammar.{Tree, joined}
use Rattle.paper.specs.Types.{type_of, typed}
use Rattle.paper.specs.Meaning.{both}
use Rattle.paper.specs.Translating.{code_of}
use Rattle.paper.specs.CodeCorrect.{needs}
use Rattle.paper.specs.BlocksRoundTrip.{All, NumbersFit}
use Rattle.paper.specs.PartsDecide.{JoinedLeft, alone, then}
use Rattle.paper.proofs.Basics.{all_append, all_parts}
use Rattle.paper.proofs.RangedCode.{join_size}
use Rattle.paper.proofs.PartsTyped.{is_bool, right, sides}

module _ (ks : List Key) where
  -- a tree whose code can be written and run, and holds at most so many values
  pub record Fine (most : ℕ) (t : Tree) : Type 0 where
    pub right : typed ks t ≡ ok tt
    pub held : needs t ≤ most
    pub numbers : NumbersFit t

  pub fine_parts : {ts : List Tree} {t : Tree} (most : ℕ) → JoinedLeft ts t → Fine most t → All (Fine most) ts
  fine_parts most (alone t) h = (h, tt)
  fine_parts most (then {ts = ts} {l = l} j at r) h =
      let (left, beside) = sides ks at l r h.right in
      let few = h.held in
      all_append (Fine most) ts (r ∷ [])
      (fine_parts most j (record { right = left; held = omega (arith, few); numbers = h.numbers.0 }))
      (record { right = beside; held = omega (arith, few); numbers = h.numbers.1 }, tt)

  joined_right : (at : ℕ) (l r : Tree) → typed ks l ≡ ok tt → typed ks r ≡ ok tt → typed ks (joined at sequel l r) ≡ ok tt
  unfolding type_of
  joined_right at l r h k = right ks (joined at sequel l r) (rw (is_bool ks l h, is_bool ks r k))

  pub fine_joined : {ts : List Tree} {t : Tree} (most : ℕ) → JoinedLeft ts t → All (Fine most) ts → Fine (most + 1) t
  fine_joined most (alone t) all =
      let (h, _) = all in
      record { right = h.right; held = omega (arith, h.held); numbers = h.numbers }
  fine_joined most (then {ts = ts} {l = l} j at r) all =
      let (before, last) = all_parts (Fine most) ts (r ∷ []) all in
      let left = fine_joined most j before in
      let beside = last.0 in
      record {
        right = joined_right at l r left.right beside.right;
        held = omega (arith, left.held, beside.held);
        numbers = (left.numbers, beside.numbers);
      }

  -- a part's code is no longer
  pub short_parts : {ts : List Tree} {t : Tree} (size : ℕ) → JoinedLeft ts t → length (code_of ks t) ≤ size → All (λ u. length (code_of ks u) ≤ size) ts
  unfolding code_of
  short_parts size (alone t) h = (h, tt)
  short_parts size (then {ts = ts} {l = l} j at r) h =
      let whole = join_size both (code_of ks l) (code_of ks r) in
      all_append (λ u. length (code_of ks u) ≤ size) ts (r ∷ []) (short_parts size j (omega (arith, h, whole))) (omega (arith, h, whole), tt)
