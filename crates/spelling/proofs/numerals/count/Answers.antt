-- A turn puts the next digit after the number; where that does not fit, neither do all of them (`grown_over`).
use Rattle.std.proofs.Common.{◌≡◌, ◌+◌, ◌*◌, ◌∙◌, ap, sym, map, drop, rules}
use Rattle.paper.specs.Numbers.{digits_after, in_base}
use Rattle.paper.specs.Tokens.{digit_of}
use Rattle.number.specs.Values.{value}
use Rattle.spelling.proofs.Numbers.{digits_on, grown_over}
use Rattle.spelling.proofs.numerals.count.Goals as goal

pub returns-in_err-number : goal.returns-in_err-number
returns-in_err-number c =
    let base = c.args.base in
    let digits = c.args.digits.now in
    let n = value c.loop-digit.number in
    let later = map digit_of (drop (c.loop-digit.digit-index + 1) digits) in
    let d = c.digit_of.result in
    let onward : digits_after base (n * base + d) later ≡ in_base base (map digit_of digits) =
    ap (λ x. digits_after base (n * base + x) later) c.digit_of.ensures ∙ sym (digits_on base n digits c.loop-digit.digit-index (search rules)) ∙ c.loop-digit.invariant.1 in
    rw c.from_residual.ensures (rw onward at (grown_over base n d later c.requires c.in_err-number.ensures))
