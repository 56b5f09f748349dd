-- The digits so far count the number that the definition counts of them, and it fits, since there are at most four (`value_on`,
-- `value_fits`).
use Rattle.std.proofs.Common.{arith}
use Rattle.addresses.proofs.Digits.{value_fits}
use Rattle.addresses.proofs.parts.value_of.Goals as goal

pub overflow_mul-value : goal.overflow_mul-value
overflow_mul-value c =
    let l = c.loop-byte in
    omega (arith, value_fits l.value c.args.base l.byte-index l.invariant.0 c.requires.1 (omega arith))

pub overflow_add-value : goal.overflow_add-value
overflow_add-value c =
    let l = c.loop-byte in
    omega (arith, c.digit_of.type_inv, value_fits l.value c.args.base l.byte-index l.invariant.0 c.requires.1 (omega arith))
