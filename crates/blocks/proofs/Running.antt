-- The check's sums along a slice: each word is added, turned round, to sums that are not reduced.
use Prim.Native.Nat.{ℕ, ◌+◌, ◌*◌, ◌-◌, ◌%◌, ◌≤◌}
use native.Mathlib.Omega.{arith}
use mathlib.Core.Path.{◌≡◌, refl, sym, ◌∙◌, ap, subst}
use mathlib.Core.List.{List, ◌∷◌, ◌++◌}
use lib.ListN.{length, get_or, drop}
use Rattle.paper.specs.Blocks.{Sums, sums_from, sums_of}
use Rattle.blocks.specs.Sealed.{TurnedWord, Added}
use Rattle.blocks.proofs.Steps.{two_off, passed, room_for, word_in}

-- a word may be added turned round, and to sums that are not reduced
added : (x y : ℕ) (s : List ℕ) (a b : ℕ) → let c = a + (x + y * 256) in
    sums_from (256 * a % 65535) (256 * b % 65535) (x ∷ y ∷ s) ≡ sums_from (256 * c % 65535) (256 * (b + c) % 65535) s
added x y s a b =
    let c = a + (x + y * 256) in
    let turned : (256 * a % 65535 + (x * 256 + y)) % 65535 ≡ 256 * c % 65535 = omega arith in
    let together : (256 * b % 65535 + 256 * c % 65535) % 65535 ≡ 256 * (b + c) % 65535 = omega arith in
    ap (λ (n : ℕ). sums_from n ((256 * b % 65535 + n) % 65535) s) turned ∙ ap (λ (n : ℕ). sums_from (256 * c % 65535) n s) together

pub added_none : (s : List ℕ) → Added s 0 0 0
unfolding sums_of
added_none s = record { inside = omega arith; first_small = omega arith; second_small = omega arith; rest = refl }

module _ {s : List ℕ} {i first second : ℕ} (so_far : Added s i first second) where
  pub added_on : (w : ℕ) → length s ≤ 508 → 2 ≤ length s - i → TurnedWord s i w → Added s (i + 2) (first + w) (second + (first + w))
  added_on w few more (e, small) =
      let step : ℕ → Sums = λ w. sums_from (256 * (first + w) % 65535) (256 * (second + (first + w)) % 65535) (drop (i + 2) s) in
      record {
        inside = omega arith;
        first_small = omega arith;
        second_small = omega arith;
        rest =
            ap step e ∙ sym (added (get_or s i 0) (get_or s (i + 1) 0) (drop (i + 2) s) first second)
            ∙ sym (ap (sums_from (256 * first % 65535) (256 * second % 65535)) (two_off s i more)) ∙ so_far.rest;
      }

  -- the same, said in other words
  pub said : {i' first' second' : ℕ} → i ≡ i' → first ≡ first' → second ≡ second' → Added s i' first' second'
  said {i'} {first'} {second'} e f g =
      subst (λ n. Added s n first' second') e (subst (λ n. Added s i n second') f (subst (λ n. Added s i first n) g so_far))

-- a part of one word is taken off what is left
module _ (s rest part after : List ℕ) (left : rest ≡ drop (length s - length rest) s) (off : rest ≡ part ++ after) (two : length part ≡ 2) where
  pub added_next : {first second : ℕ} → Added s (length s - length rest) first second → length s ≤ 508 → (w : ℕ) → TurnedWord part 0 w
      → Added s (length s - length after) (first + w) (second + (first + w))
  added_next so_far few w at-w =
      let i = length s - length rest in
      let on : length s - length after ≡ i + 2 = passed s rest part after left off ∙ omega (arith, two) in
      rw on
      (added_on so_far w few (omega (arith, room_for s rest part after left off, two)) (word_in s rest part after left off 0 i w (omega arith) (omega arith) at-w))
