-- What a division gives, and what the bytes of a numeral hold.
use Rattle.std.specs.Prelude.{◌≡◌, ℕ, ◌+◌, ◌-◌, ◌*◌, ◌/◌, ◌%◌, ◌^◌, ◌<◌, ◌≤◌, List, ◌++◌, map, length, drop}
use Rattle.paper.specs.Print.{digit_byte, digits_in, most_digits}
use Rattle.number.specs.declared.numeral.Divided.{Divided}
use Rattle.number.specs.declared.numeral.Digits.{Digits}
use Rattle.number.specs.Values.{value}

pub record Divides (n base : ℕ) (r : Divided) : Type 0 where
  pub whole : value r.number ≡ n / base
  pub rest : r.rest ≡ n % base

-- the digits of n, at most i, and what stands from i on
abbrev pub numeral_with : ℕ → ℕ → ℕ → List ℕ → List ℕ
numeral_with base i n s = map digit_byte (digits_in base i n) ++ drop i s

-- n was written before an offset in so many digits, which end any number that goes on with them
abbrev pub Ends : (base count n end : ℕ) (before after : List ℕ) → Type 0
Ends base count n end before after =
    (high : ℕ) → 0 < high → numeral_with base (end - count) high after ≡ numeral_with base end (high * base ^ count + n) before

-- n was written before an offset, from the first byte on
pub record Begins (base n end : ℕ) (before after : List ℕ) (first : ℕ) : Type 0 where
  pub inside : first ≤ end
  pub bytes : drop first after ≡ numeral_with base end n before

-- the bytes from the first one on are s
pub record Holds (s : List ℕ) (r : Digits) : Type 0 where
  pub inside : r.first ≤ most_digits
  pub size : length r.bytes ≡ most_digits
  pub bytes : drop r.first r.bytes ≡ s

-- a limb has no more digits in any base
abbrev pub most_limb_digits : ℕ
most_limb_digits = 32

-- the bytes from an offset on are s
pub record Lies (s written : List ℕ) (first : ℕ) : Type 0 where
  pub inside : first ≤ length written
  pub bytes : drop first written ≡ s
