-- The check's sums four words at a time. Each of the four words has a pair of sums of its own, and a turn of these pairs is four turns of
-- the one pair that they come to.
use Prim.Native.Nat.{ℕ, ◌+◌, ◌*◌, ◌-◌, ◌%◌, ◌≤◌}
use native.Mathlib.Omega.{arith}
use mathlib.Core.Path.{◌≡◌, refl, ◌∙◌}
use mathlib.Core.List.{List, ◌++◌}
use lib.ListN.{length, drop}
use Rattle.blocks.specs.Sealed.{TurnedWord, Added}
use Rattle.blocks.proofs.Steps.{passed, room_for, word_in}
use Rattle.blocks.proofs.Running.{added_none, added_on, said}

-- a pair of sums of one word of each four before byte i, of which there are at most 63
pub record Pair (i first second : ℕ) : Type 0 where
  pub first_small : 8 * first ≤ 65535 * i
  pub second_small : 8 * second ≤ 63 * 65535 * i
  pub below : first ≤ second

pair_on : (i first second w : ℕ) → i ≤ 496 → w ≤ 65535 → Pair i first second → Pair (i + 8) (first + w) (second + (first + w))
pair_on i first second w few small p = record { first_small = omega arith; second_small = omega arith; below = omega arith }

-- the second sum that the pairs come to, of their first sums, but that of the first pair, and of all their second sums
abbrev second_of : ℕ → ℕ → ℕ → ℕ → ℕ
second_of b c d seconds = 4 * seconds - (b + 2 * c + 3 * d)

-- the fours before byte i are added
pub record Fours (s : List ℕ) (i a b c d a' b' c' d' : ℕ) : Type 0 where
  pub whole : i % 8 ≡ 0
  pub pair_a : Pair i a a'
  pub pair_b : Pair i b b'
  pub pair_c : Pair i c c'
  pub pair_d : Pair i d d'
  pub sums : Added s i (a + b + c + d) (second_of b c d (a' + b' + c' + d'))

no_pair : Pair 0 0 0
no_pair = record { first_small = omega arith; second_small = omega arith; below = omega arith }

pub fours_none : (s : List ℕ) → Fours s 0 0 0 0 0 0 0 0 0
fours_none s =
    record { whole = refl; pair_a = no_pair; pair_b = no_pair; pair_c = no_pair; pair_d = no_pair; sums = added_none s }

-- a turn adds to it the first sum after each of the four words
second_turn : (a b c d a' b' c' d' v w x y : ℕ) → b ≤ b' → c ≤ c' → d ≤ d' → let f = a + b + c + d in
    second_of b c d (a' + b' + c' + d') + (f + v) + (f + v + w) + (f + v + w + x) + (f + v + w + x + y)
    ≡ second_of (b + w) (c + x) (d + y) (a' + (a + v) + (b' + (b + w)) + (c' + (c + x)) + (d' + (d + y)))
second_turn a b c d a' b' c' d' v w x y below-b below-c below-d = omega arith

module _ {s : List ℕ} {i a b c d a' b' c' d' : ℕ} (so_far : Fours s i a b c d a' b' c' d') where
  pub fours_on : (v w x y : ℕ) → length s ≤ 508 → 8 ≤ length s - i
      → TurnedWord s i v → TurnedWord s (i + 2) w → TurnedWord s (i + 4) x → TurnedWord s (i + 6) y
      → Fours s (i + 8) (a + v) (b + w) (c + x) (d + y) (a' + (a + v)) (b' + (b + w)) (c' + (c + x)) (d' + (d + y))
  fours_on v w x y few more at-v at-w at_x at_y =
      let i-small : i ≤ 496 = omega (arith, so_far.whole) in
      let one = added_on so_far.sums v few (omega arith) at-v in
      let two = added_on one w few (omega arith) at-w in
      let to-x : i + 2 + 2 ≡ i + 4 = omega arith in
      let to-y : i + 4 + 2 ≡ i + 6 = omega arith in
      let three = added_on (said two to-x refl refl) x few (omega arith) at_x in
      let four = added_on (said three to-y refl refl) y few (omega arith) at_y in
      record {
        whole = omega (arith, so_far.whole);
        pair_a = pair_on i a a' v i-small at-v.1 so_far.pair_a;
        pair_b = pair_on i b b' w i-small at-w.1 so_far.pair_b;
        pair_c = pair_on i c c' x i-small at_x.1 so_far.pair_c;
        pair_d = pair_on i d d' y i-small at_y.1 so_far.pair_d;
        sums =
            said four (omega arith) (omega arith)
            (second_turn a b c d a' b' c' d' v w x y so_far.pair_b.below so_far.pair_c.below so_far.pair_d.below);
      }

-- a part of four words is taken off what is left
module _ (s rest part after : List ℕ) (left : rest ≡ drop (length s - length rest) s) (off : rest ≡ part ++ after) (eight : length part ≡ 8) where
  pub fours_next : {a b c d a' b' c' d' : ℕ} → Fours s (length s - length rest) a b c d a' b' c' d' → length s ≤ 508 → (v w x y : ℕ)
      → TurnedWord part 0 v → TurnedWord part 2 w → TurnedWord part 4 x → TurnedWord part 6 y
      → Fours s (length s - length after) (a + v) (b + w) (c + x) (d + y) (a' + (a + v)) (b' + (b + w)) (c' + (c + x)) (d' + (d + y))
  fours_next so_far few v w x y at-v at-w at_x at_y =
      let in_s = word_in s rest part after left off in
      let i = length s - length rest in
      let on : length s - length after ≡ i + 8 = passed s rest part after left off ∙ omega (arith, eight) in
      rw on
      (fours_on so_far v w x y few (omega (arith, room_for s rest part after left off, eight))
      (in_s 0 i v (omega arith) (omega arith) at-v) (in_s 2 (i + 2) w (omega arith) (omega arith) at-w)
      (in_s 4 (i + 4) x (omega arith) (omega arith) at_x) (in_s 6 (i + 6) y (omega arith) (omega arith) at_y))
