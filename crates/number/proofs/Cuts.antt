-- A number of several limbs is cut: its last digits are written, so many of them in any case, and the rest is a shorter number that ends
-- with them.
use Rattle.std.proofs.Common.{◌≡◌, ℕ, suc, ◌+◌, ◌-◌, ◌*◌, ◌/◌, ◌%◌, ◌^◌, ◌<◌, ◌≤◌, false, ltb, List, length, set, sym, ap, ◌∙◌, ap₂, mul-le-mul_right, mul_assoc, div-lt_iff_lt-mul, mul-pos, one-mul, pow-suc, div-add-mod', le-div_iff_mul-le, arith, pow-add, le-ltb}
use native.Mathlib.Nat.{pow-zero, one-le-pow, pow-le-pow_left, pow-le-pow_right, mul-add-div_right, mul-add-mod_self_right}
use native.Mathlib.Decide.{dec_le}
use Rattle.paper.specs.Print.{digit_byte}
use Rattle.number.specs.Numerals.{numeral_with, Ends}
use Rattle.number.proofs.DigitPlaces.{digit_more}

-- what numbers are cut by
pub seventh : (base : ℕ) → base * base * base * (base * base * base) * base ≡ base ^ 7
seventh base =
    let cube : base * base * base ≡ base ^ 3 = sym (pow-suc base 2 ∙ ap (λ x. x * base) (pow-suc base 1 ∙ ap (λ x. x * base) (pow-suc base 0 ∙ ap (λ x. x * base) (pow-zero base) ∙ one-mul base))) in
    ap (λ x. x * x * base) cube ∙ ap (λ x. x * base) (sym (pow-add base 3 3)) ∙ sym (pow-suc base 6)

-- one digit of the cut: it is the last one of every longer number
module _ (base high k left : ℕ) (two : 2 ≤ base) (some : 0 < high) where
  abbrev longer : ℕ
  longer = high * base ^ suc k + left

  shifted : longer ≡ high * base ^ k * base + left
  shifted = ap (λ x. high * x + left) (pow-suc base k) ∙ ap (λ x. x + left) (sym (mul_assoc high (base ^ k) base))

  more_digits : ltb longer base ≡ false
  more_digits =
      let above = mul-le-mul_right base (mul-pos some (one-le-pow k base (omega arith))) in
      le-ltb longer base (omega (arith, shifted, above))

  pub cut_more : (s : List ℕ) (i : ℕ) → 0 < i → i ≤ length s
      → numeral_with base (i - 1) (high * base ^ k + left / base) (set s (i - 1) (digit_byte (left % base))) ≡ numeral_with base i longer s
  cut_more s i p h =
      ap₂ (λ n d. numeral_with base (i - 1) n (set s (i - 1) (digit_byte d)))
      (sym (ap (λ x. x / base) shifted ∙ mul-add-div_right (let some_base : 0 < base = omega arith in some_base) (high * base ^ k) left))
      (sym (ap (λ x. x % base) shifted ∙ mul-add-mod_self_right (high * base ^ k) base left))
      ∙ digit_more base longer s i p h more_digits

-- one digit less of what is cut off
pub cut_less : (base k left : ℕ) → 2 ≤ base → left < base ^ suc k → left / base < base ^ k
cut_less base k left two h =
    let some_base : 0 < base = omega arith in
    (div-lt_iff_lt-mul some_base).1 (rw (pow-suc base k) at h)

-- the whole cut: a number of several limbs has more than seven digits in every base
module _ (base n : ℕ) (two : 2 ≤ base) (most : base ≤ 16) (long : 2 ^ 32 ≤ n) where
  seven_fit : base ^ 7 ≤ 16 ^ 7
  seven_fit = pow-le-pow_left most 7

  some_power : 0 < base ^ 7
  some_power = one-le-pow 7 base (omega arith)

  some_above : 0 < n / base ^ 7
  some_above = (le-div_iff_mul-le some_power).1 (omega (arith, seven_fit))

  module _ (end : ℕ) (below : n < base ^ end) where
    pub room_for_it : 7 ≤ end
    room_for_it = go (dec_le 7 end)
      where
        go : Dec (7 ≤ end) → 7 ≤ end
        go (yes p) = p
        go (no p) =
            let few : end ≤ 7 = omega arith in
            let small = pow-le-pow_right {n = base} (omega arith) few in
            absurd (omega (arith, small, seven_fit))

    pub shorter : n / base ^ 7 < base ^ (end - 7)
    shorter =
        let h = room_for_it in
        let same : end ≡ (end - 7) + 7 = omega arith in
        (div-lt_iff_lt-mul some_power).1 (rw (same, pow-add base (end - 7) 7) at below)

  pub cut_whole : (end : ℕ) (before after : List ℕ) → Ends base 7 (n % base ^ 7) end before after
      → numeral_with base (end - 7) (n / base ^ 7) after ≡ numeral_with base end n before
  cut_whole end before after ends = ends (n / base ^ 7) some_above ∙ ap (λ x. numeral_with base end x before) (div-add-mod' n (base ^ 7))
