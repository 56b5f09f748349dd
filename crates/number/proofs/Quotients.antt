-- A number of four limbs is divided limb by limb from the highest: each limb stands after what the one above it left over, so the
-- quotients are the limbs of the whole quotient.
use Rattle.std.proofs.Common.{◌≡◌, ℕ, ◌+◌, ◌*◌, ◌/◌, ◌%◌, ◌^◌, ◌<◌, sym, ap, ◌∙◌, mul_assoc, add-mul, arith}
use lib.Arith.{digits_div, digits_mod}
use Rattle.number.specs.declared.magnitude.Magnitude.{Magnitude}
use Rattle.number.specs.declared.numeral.Split.{Split}
use Rattle.number.specs.Values.{nested, limb, value}

-- one limb, after what was left over
abbrev pub Splits : ℕ → ℕ → ℕ → Split → Type 0
Splits base over l r = (r.limb * base + r.rest ≡ over * 2 ^ 32 + l) × (r.rest < base)

-- one limb more
down : (base D M r c l s : ℕ) → M ≡ D * base + r → c * base + s ≡ r * 2 ^ 32 + l → l + 2 ^ 32 * M ≡ (c + 2 ^ 32 * D) * base + s
down base D M r c l s h g =
    let e : (c + 2 ^ 32 * D) * base ≡ c * base + 2 ^ 32 * (D * base) =
    add-mul c (2 ^ 32 * D) base ∙ ap (λ x. c * base + x) (mul_assoc (2 ^ 32) D base)
    in
    rw e (omega arith)

module _ (m : Magnitude) (base : ℕ) (a b c d : Split) (top : Splits base 0 (limb m 3) d) (third : Splits base d.rest (limb m 2) c)
    (second : Splits base c.rest (limb m 1) b) (lowest : Splits base b.rest (limb m 0) a) where
  abbrev all : ℕ
  all = nested a.limb b.limb c.limb d.limb

  whole : value m ≡ all * base + a.rest
  unfolding value
  whole =
      down base (b.limb + 2 ^ 32 * (c.limb + 2 ^ 32 * d.limb)) (limb m 1 + 2 ^ 32 * (limb m 2 + 2 ^ 32 * limb m 3)) b.rest a.limb (limb m 0) a.rest
      (down base (c.limb + 2 ^ 32 * d.limb) (limb m 2 + 2 ^ 32 * limb m 3) c.rest b.limb (limb m 1) b.rest
      (down base d.limb (limb m 3) d.rest c.limb (limb m 2) c.rest (omega (arith, top)) third.0) second.0) lowest.0

  pub quotient : all ≡ value m / base
  quotient = sym (ap (λ x. x / base) whole ∙ digits_div all lowest.1)

  pub remainder : a.rest ≡ value m % base
  remainder = sym (ap (λ x. x % base) whole ∙ digits_mod all lowest.1)
