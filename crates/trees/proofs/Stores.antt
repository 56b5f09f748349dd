-- A number's words are the radix of its base and its limbs.
use Prim.Native.Nat.{ℕ, ◌+◌, ◌*◌, ◌/◌, ◌%◌, ◌^◌, ◌<◌}
use mathlib.Core.Path.{◌≡◌, sym, ap, ◌∙◌}
use native.Mathlib.Nat.{div-one, div-div-eq-div-mul, mod-eq_of_lt}
use native.Mathlib.Omega.{arith}
use Rattle.number.specs.declared.magnitude.Magnitude.{Magnitude}
use Rattle.number.specs.Values.{nested, limb, value}
use Rattle.number.proofs.Limbs.{Held}
use Rattle.paper.specs.Tokens.{Base, radix, literal_in}
use Rattle.paper.specs.Grammar.{number}
use Rattle.trees.specs.Words.{number_words, words}

module _ (a m : ℕ) (h : a < 2 ^ 32) where
  low : (a + 2 ^ 32 * m) % 2 ^ 32 ≡ a
  low = omega arith

  high : (a + 2 ^ 32 * m) / 2 ^ 32 ≡ m
  high = omega arith

module _ (a b c d : ℕ) (ha : a < 2 ^ 32) (hb : b < 2 ^ 32) (hc : c < 2 ^ 32) (hd : d < 2 ^ 32) where
  number_words_lem : (f i : ℕ) (base : Base) → words f (number i (literal_in base (nested a b c d))) ≡ number_words i (radix base) a b c d
  number_words_lem f i base =
      let n = nested a b c d in
      let l = b + 2 ^ 32 * (c + 2 ^ 32 * d) in
      let h = c + 2 ^ 32 * d in
      let one : n / 2 ^ 32 ≡ l = high a l ha in
      let two : n / 2 ^ 64 ≡ h = sym (div-div-eq-div-mul n (2 ^ 32) (2 ^ 32)) ∙ ap (λ (x : ℕ). x / 2 ^ 32) one ∙ high b h hb in
      let three : n / 2 ^ 96 ≡ d = sym (div-div-eq-div-mul n (2 ^ 64) (2 ^ 32)) ∙ ap (λ (x : ℕ). x / 2 ^ 32) two ∙ high c d hc in
      let zero : n / 1 % 2 ^ 32 ≡ a = ap (λ (x : ℕ). x % 2 ^ 32) (div-one n) ∙ low a l ha in
      rw (zero, one, two, three, low b h hb, low c d hc, mod-eq_of_lt hd)

pub magnitude_words : (m : Magnitude) → Held m → (f i : ℕ) (base : Base)
    → words f (number i (literal_in base (value m))) ≡ number_words i (radix base) (limb m 0) (limb m 1) (limb m 2) (limb m 3)
unfolding value
magnitude_words m h f i base =
    number_words_lem (limb m 0) (limb m 1) (limb m 2) (limb m 3) h.l0.fits h.l1.fits h.l2.fits h.l3.fits f i base
