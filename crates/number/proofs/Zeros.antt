-- Trailing zeros: the lowest k bits of a number are zero exactly when at least k zeros are counted at its end; and of a number in limbs
-- the lowest limb that is not zero tells it.
-- Assumes nothing.
use Rattle.std.proofs.Common.{◌≡◌, ℕ, zero, suc, ◌+◌, ◌-◌, ◌*◌, ◌/◌, ◌%◌, ◌^◌, ◌<◌, ◌≤◌, min, eqb, leb, sym, refl, ap, ◌∙◌, add-one, arith, eq-eqb, ne_eqb}
use native.Mathlib.Nat.{mod-one, zero-mod}
use native.Mathlib.Decide.{dec_le}
use lib.Count.{count_trailing_zeros, under}
use lib.Dec.{leb-zero, leb-suc-zero, leb-suc-suc}
use lib.Pow.{mod-pow-add}
use Rattle.number.specs.declared.magnitude.Magnitude.{Magnitude}
use Rattle.number.specs.Values.{limb, value}
use Rattle.number.proofs.Limbs.{Held}
use Rattle.number.proofs.Orders.{eqb_iff}
use Rattle.number.proofs.Powers.{mod_wide, mod_min, mod_digit}

-- the lowest bit, and those above it
halved : (n k : ℕ) → n % 2 ^ suc k ≡ n / 2 % 2 ^ k * 2 + n % 2
halved n k = ap (λ (j : ℕ). n % 2 ^ j) (sym (add-one k)) ∙ mod-pow-add n k 1

-- of w bits, by the lowest: where it is set no zero is counted, else one more than above it
counted : (w n k : ℕ) → k ≤ w → leb k (count_trailing_zeros w n) ≡ eqb (n % 2 ^ k) 0
unfolding count_trailing_zeros
counted w n zero l = leb-zero (count_trailing_zeros w n) ∙ sym (eq-eqb (n % 2 ^ 0) 0 (mod-one n))
counted zero n (suc k) l = absurd (omega arith)
counted (suc w) n (suc k) l = go (n % 2) refl (counted w (n / 2) k (omega arith))
  where
    above : ℕ
    above = n / 2 % 2 ^ k

    go : (d : ℕ) → n % 2 ≡ d → leb k (count_trailing_zeros w (n / 2)) ≡ eqb above 0 → leb (suc k) (under d (count_trailing_zeros w (n / 2))) ≡ eqb (n % 2 ^ suc k) 0
    go zero e told =
        leb-suc-suc k (count_trailing_zeros w (n / 2)) ∙ told
        ∙ eqb_iff above 0 (n % 2 ^ suc k) 0 (λ h. omega (arith, halved n k)) (λ h. omega (arith, halved n k))
    go (suc d) e told = leb-suc-zero k ∙ sym (ne_eqb (n % 2 ^ suc k) 0 (λ h. omega (arith, halved n k)))

-- of a number that fits w bits, for every k: all w are zero where k is more
pub zeros_tell : (w n k : ℕ) → n < 2 ^ w → leb (min k w) (count_trailing_zeros w n) ≡ eqb (n % 2 ^ k) 0
zeros_tell w n k h = rw (mod_min n w k h) (counted w n (min k w) (omega arith))

-- a digit that is not zero decides for those above it
decides : (k a m : ℕ) → a < 2 ^ 32 → (a ≡ 0 → ⊥) → eqb (a % 2 ^ k) 0 ≡ eqb ((a + 2 ^ 32 * m) % 2 ^ k) 0
decides k a m l n =
    eqb_iff (a % 2 ^ k) 0 ((a + 2 ^ 32 * m) % 2 ^ k) 0 (λ h. go h (dec_le k 32)) (λ h. omega (arith, mod_digit k a m l))
  where
    go : a % 2 ^ k ≡ 0 → Dec (k ≤ 32) → (a + 2 ^ 32 * m) % 2 ^ k ≡ 0
    go h (yes p) =
        let e : k - 32 ≡ 0 = omega arith in
        rw (mod_digit k a m l, h, e, mod-one) (omega arith)
    go h (no p) = absurd (n (sym (mod_wide a 32 k l (omega arith)) ∙ h))

-- one that is zero leaves it to them, for the bits past it
passes : (j k a m : ℕ) → j ≡ k - 32 → a ≡ 0 → eqb (m % 2 ^ j) 0 ≡ eqb ((a + 2 ^ 32 * m) % 2 ^ k) 0
passes j k a m e z =
    let q = mod_digit k a m (omega arith) in
    let low : a % 2 ^ k ≡ 0 = rw z (zero-mod (2 ^ k)) in
    rw e (eqb_iff (m % 2 ^ (k - 32)) 0 ((a + 2 ^ 32 * m) % 2 ^ k) 0 (λ h. omega (arith, q, low)) (λ h. omega (arith, q, low)))

-- the lowest limb that is not zero decides for a number, and the last where none is
module _ (k : ℕ) (m : Magnitude) (h : Held m) where
  pub clear0 : (limb m 0 ≡ 0 → ⊥) → eqb (limb m 0 % 2 ^ k) 0 ≡ eqb (value m % 2 ^ k) 0
  unfolding value
  clear0 n = decides k (limb m 0) _ h.l0.fits n

  past0 : limb m 0 ≡ 0 → eqb ((limb m 1 + 2 ^ 32 * (limb m 2 + 2 ^ 32 * limb m 3)) % 2 ^ (k - 32)) 0 ≡ eqb (value m % 2 ^ k) 0
  unfolding value
  past0 e = passes (k - 32) k (limb m 0) _ refl e

  pub clear1 : limb m 0 ≡ 0 → (limb m 1 ≡ 0 → ⊥) → eqb (limb m 1 % 2 ^ (k - 32)) 0 ≡ eqb (value m % 2 ^ k) 0
  clear1 e n = decides (k - 32) (limb m 1) _ h.l1.fits n ∙ past0 e

  past1 : limb m 0 ≡ 0 → limb m 1 ≡ 0 → eqb ((limb m 2 + 2 ^ 32 * limb m 3) % 2 ^ (k - 64)) 0 ≡ eqb (value m % 2 ^ k) 0
  past1 e f = passes (k - 64) (k - 32) (limb m 1) _ (omega arith) f ∙ past0 e

  pub clear2 : limb m 0 ≡ 0 → limb m 1 ≡ 0 → (limb m 2 ≡ 0 → ⊥) → eqb (limb m 2 % 2 ^ (k - 64)) 0 ≡ eqb (value m % 2 ^ k) 0
  clear2 e f n = decides (k - 64) (limb m 2) _ h.l2.fits n ∙ past1 e f

  pub clear3 : limb m 0 ≡ 0 → limb m 1 ≡ 0 → limb m 2 ≡ 0 → eqb (limb m 3 % 2 ^ (k - 96)) 0 ≡ eqb (value m % 2 ^ k) 0
  clear3 e f g = passes (k - 96) (k - 64) (limb m 2) _ (omega arith) g ∙ past1 e f
