-- The bytes before the end are as many as a limb has digits at most, so all of them are there (`enough_digits`); after the end there is nothing.
use Rattle.std.proofs.Common.{◌≡◌, ℕ, ◌^◌, ◌<◌, ◌≤◌, List, ◌++◌, map, length, sym, ap, ◌∙◌, append-nil, lt_of_lt_of_le, arith, drop_of_length-le}
use native.Mathlib.Nat.{pow-le-pow_left}
use Rattle.paper.specs.Print.{digit_byte, digits_in, most_digits, numeral_in}
use Rattle.number.specs.Numerals.{numeral_with, most_limb_digits}
use Rattle.number.proofs.EnoughDigits.{enough_digits}
use Rattle.number.proofs.numeral.put_limb_digits.Goals as goal

whole_numeral : (base n : ℕ) (s : List ℕ) → 2 ≤ base → n < 2 ^ 32 → length s ≡ most_limb_digits → numeral_with base most_limb_digits n s ≡ numeral_in base n
whole_numeral base n s two limb full =
    let below : n < base ^ most_limb_digits = lt_of_lt_of_le limb (pow-le-pow_left two most_limb_digits) in
    let nothing = drop_of_length-le s {i = most_limb_digits} (omega (arith, full)) in
    ap (λ (l : List ℕ). map digit_byte (digits_in base most_limb_digits n) ++ l) nothing
    ∙ append-nil (map digit_byte (digits_in base most_limb_digits n))
    ∙ ap (map digit_byte) (sym (enough_digits base most_limb_digits most_digits n two (omega arith) (omega arith) below))

pub returns : goal.returns
returns c =
    record {
      inside = omega (arith, c.put_first.ensures.inside, c.put_first.auto, c.requires.bytes_len);
      bytes = c.put_first.ensures.bytes ∙ whole_numeral c.args.base c.args.n c.args.bytes.now c.requires.le_base.0 c.ranges.n.fits c.requires.bytes_len;
    }
