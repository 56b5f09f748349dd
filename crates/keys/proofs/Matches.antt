-- A key's record in an entry.
use Prim.Native.Nat.{ℕ, ◌-◌, ◌^◌, ◌<◌}
use mathlib.Core.Path.{◌≡◌, refl, sym}
use mathlib.Core.Bool.{Bool, true, false, not}
use native.Mathlib.Omega.{arith}
use lib.Dec.{eqb, ltb, leb}
use lib.Pow.{pow-lt}
use borrow.Author.Tests.{ltb-true, ltb-false, le-leb, lt-leb, ne_eqb}

-- low at most high is high not below low

pub not_below : (low high : ℕ) → not (ltb high low) ≡ leb low high
not_below low high = go (ltb high low) refl
  where
    go : (t : Bool) → ltb high low ≡ t → not t ≡ leb low high
    go true e = sym (lt-leb low high (ltb-true high low e))
    go false e = sym (le-leb low high (ltb-false high low e))

-- 128 bits are no row of more than 128 ones

short_of : (n M N : ℕ) → n < M → M < N → n ≡ N - 1 → ⊥
short_of n M N g h e = omega arith

pub too_wide : (n w : ℕ) → n < 2 ^ 128 → 128 < w → eqb n (2 ^ w - 1) ≡ false
too_wide n w g h = ne_eqb n (2 ^ w - 1) (short_of n (2 ^ 128) (2 ^ w) g (pow-lt h))
