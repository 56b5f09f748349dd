-- The bits of four limbs under a mask.
-- Assumes nothing.
use Rattle.std.proofs.Common.{◌≡◌, ℕ, ◌+◌, ◌*◌, ◌^◌, ◌<◌, sym, ap, ◌∙◌, ap₂, mul_comm, add_comm}
use lib.Bits.{bit_and, and_block}
use Rattle.number.specs.declared.magnitude.Magnitude.{Magnitude}
use Rattle.number.specs.Values.{limb, nested, value}
use Rattle.number.proofs.Limbs.{Held}

turned : (a m : ℕ) → m * 2 ^ 32 + a ≡ a + 2 ^ 32 * m
turned a m = add_comm (m * 2 ^ 32) a ∙ ap (λ (k : ℕ). a + k) (mul_comm m (2 ^ 32))

and_digit : (a b m n : ℕ) → a < 2 ^ 32 → b < 2 ^ 32 → bit_and (a + 2 ^ 32 * m) (b + 2 ^ 32 * n) ≡ bit_and a b + 2 ^ 32 * bit_and m n
and_digit a b m n ha hb =
    ap₂ bit_and (sym (turned a m)) (sym (turned b n)) ∙ and_block 32 m n a b ha hb ∙ turned (bit_and a b) (bit_and m n)

pub and_limbs : (a b : Magnitude) → Held a → Held b
    → bit_and (value a) (value b) ≡ nested (bit_and (limb a 0) (limb b 0)) (bit_and (limb a 1) (limb b 1)) (bit_and (limb a 2) (limb b 2)) (bit_and (limb a 3) (limb b 3))
unfolding value
and_limbs a b ha hb =
    and_digit _ _ _ _ ha.l0.fits hb.l0.fits
    ∙ ap (λ (k : ℕ). bit_and (limb a 0) (limb b 0) + 2 ^ 32 * k) (and_digit _ _ _ _ ha.l1.fits hb.l1.fits
    ∙ ap (λ (k : ℕ). bit_and (limb a 1) (limb b 1) + 2 ^ 32 * k) (and_digit _ _ _ _ ha.l2.fits hb.l2.fits))
