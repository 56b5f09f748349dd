-- Four limbs and their value: its bound, and that no two Magnitudes have the same value.
-- Assumes nothing.
use Rattle.std.proofs.Common.{◌≡◌, ℕ, zero, suc, ◌+◌, ◌*◌, ◌^◌, ◌<◌, length, sym, ◌∙◌, arith, ext_get_or, w32, Fits}
use Rattle.number.specs.declared.magnitude.Magnitude.{Magnitude}
use Rattle.number.specs.Values.{limb, nested, value}

-- what is known of every Magnitude that code holds: `search needs` proves it
pub record Held (m : Magnitude) : Type 0 where
  pub four : length m.limbs ≡ 4
  pub l0 : Fits w32 (limb m 0)
  pub l1 : Fits w32 (limb m 1)
  pub l2 : Fits w32 (limb m 2)
  pub l3 : Fits w32 (limb m 3)

digit_lt : (M a m : ℕ) → a < 2 ^ 32 → m < M → a + 2 ^ 32 * m < 2 ^ 32 * M
digit_lt M a m ha hm = omega arith

pub nested_lt : {a b c d : ℕ} → Fits w32 a → Fits w32 b → Fits w32 c → Fits w32 d → nested a b c d < 2 ^ 128
nested_lt {a} {b} {c} {d} ha hb hc hd =
    digit_lt (2 ^ 96) a (b + 2 ^ 32 * (c + 2 ^ 32 * d)) ha.fits
    (digit_lt (2 ^ 64) b (c + 2 ^ 32 * d) hb.fits (digit_lt (2 ^ 32) c d hc.fits hd.fits))

pub value_lt : (m : Magnitude) → Held m → value m < 2 ^ 128
unfolding value
value_lt m h = nested_lt h.l0 h.l1 h.l2 h.l3

pub digit_same : {a b m n : ℕ} → a < 2 ^ 32 → b < 2 ^ 32 → a + 2 ^ 32 * m ≡ b + 2 ^ 32 * n → (a ≡ b) × (m ≡ n)
digit_same ha hb e = omega arith

pub limb_for_limb : (a b : Magnitude) → Held a → Held b → value a ≡ value b
    → (limb a 0 ≡ limb b 0) × (limb a 1 ≡ limb b 1) × (limb a 2 ≡ limb b 2) × (limb a 3 ≡ limb b 3)
unfolding value
limb_for_limb a b ha hb e =
    let e0 = digit_same ha.l0.fits hb.l0.fits e in
    let e1 = digit_same ha.l1.fits hb.l1.fits e0.1 in
    let e2 = digit_same ha.l2.fits hb.l2.fits e1.1 in
    (e0.0, e1.0, e2.0, e2.1)

-- a number has one Magnitude
pub same_value : (a b : Magnitude) → Held a → Held b → value a ≡ value b → a ≡ b
same_value a b ha hb e = λ i. record { limbs = ext_get_or 0 a.limbs b.limbs (ha.four ∙ sym hb.four) each i }
  where
    each : (k : ℕ) → k < length a.limbs → limb a k ≡ limb b k
    each zero h = (limb_for_limb a b ha hb e).0
    each (suc zero) h = (limb_for_limb a b ha hb e).1
    each (suc (suc zero)) h = (limb_for_limb a b ha hb e).2
    each (suc (suc (suc zero))) h = (limb_for_limb a b ha hb e).3
    each (suc (suc (suc (suc k)))) h = absurd (omega (arith, ha.four))
