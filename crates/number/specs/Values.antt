-- What the crate's types stand for: the number that four limbs hold, and the whole number of a size and a sign.
use Rattle.std.specs.Prelude.{◌≡◌, ℕ, ◌+◌, ◌*◌, ◌^◌, Bool, true, false, ℤ, pos, neg_ℤ, nat_lt, slice_index, Option, Some, None}
use Rattle.number.specs.declared.magnitude.Magnitude.{Magnitude}
use Rattle.number.specs.declared.whole.Whole.{Whole}

-- digits in base 2^32, the lowest first
abbrev pub nested : ℕ → ℕ → ℕ → ℕ → ℕ
nested a b c d = a + 2 ^ 32 * (b + 2 ^ 32 * (c + 2 ^ 32 * d))

abbrev pub limb : Magnitude → ℕ → ℕ
limb m i = slice_index m.limbs i

unfoldable pub value : Magnitude → ℕ
value m = nested (limb m 0) (limb m 1) (limb m 2) (limb m 3)

abbrev pub bit : Bool → ℕ
bit true = 1
bit false = 0

-- "minus zero is zero": ℤ has one zero
abbrev pub signed : Bool → ℕ → ℤ
signed true n = neg_ℤ (pos n)
signed false n = pos n

abbrev pub whole_of : Whole → ℤ
whole_of w = signed w.negative (value w.size)

-- n, if it fits 128 bits
abbrev pub Fitted : ℕ → Option Magnitude → Type 0
Fitted n (Some m) = (nat_lt n (2 ^ 128) ≡ true) × (value m ≡ n)
Fitted n None = nat_lt n (2 ^ 128) ≡ false
