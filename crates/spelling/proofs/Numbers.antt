-- Numerals: what the digits of a run count, a digit at a time.
use Prim.Native.Nat.{ℕ, ◌+◌, ◌*◌, ◌^◌, ◌≤◌, ◌<◌}
use mathlib.Core.Path.{◌≡◌}
use mathlib.Core.Bool.{false}
use mathlib.Core.List.{List, [], ◌∷◌, map}
use native.Mathlib.Nat.{le_refl, le_trans, le-add_right, le-mul_of_pos_right}
use lib.ListN.{length, get_or, drop}
use lib.Dec.{ltb}
use borrow.Author.Tests.{ltb-false, le-ltb}
use Rattle.paper.specs.Numbers.{digits_after}
use Rattle.paper.specs.Tokens.{digit_of}
use Rattle.spelling.proofs.Spans.{cut}

-- more digits never make a number less
pub after_grows : (base n : ℕ) (ds : List ℕ) → 0 < base → n ≤ digits_after base n ds
after_grows base n [] h = le_refl n
after_grows base n (d ∷ ds) h =
    le_trans (le_trans (le-mul_of_pos_right n h) (le-add_right (n * base) d)) (after_grows base (n * base + d) ds h)

module _ (base n : ℕ) (s : List ℕ) (i : ℕ) where
  pub digits_on : i < length s
      → digits_after base n (map digit_of (drop i s)) ≡ digits_after base (n * base + digit_of (get_or s i 0)) (map digit_of (drop (i + 1) s))
  digits_on h = rw (cut s i h)

-- where a number and a digit after it do not fit, neither do they with more digits
pub grown_over : (base n d : ℕ) (ds : List ℕ) → 0 < base → ltb (n * base + d) (2 ^ 128) ≡ false
    → ltb (digits_after base (n * base + d) ds) (2 ^ 128) ≡ false
grown_over base n d ds h e = le-ltb _ (2 ^ 128) (le_trans (ltb-false (n * base + d) (2 ^ 128) e) (after_grows base (n * base + d) ds h))
