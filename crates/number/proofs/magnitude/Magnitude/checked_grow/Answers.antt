-- Where nothing is left over, the lowest 128 bits are the whole number.
use Rattle.std.proofs.Common.{◌≡◌, ◌*◌, ◌+◌, ◌^◌, arith, rules, lt-ltb}
use Rattle.number.specs.Values.{value}
use Rattle.number.proofs.Limbs.{value_lt}
use Rattle.number.proofs.magnitude.Magnitude.checked_grow.Goals as goal

pub returns-in_default-eq0 : goal.returns-in_default-eq0
returns-in_default-eq0 c =
    let a = c.args in
    let m = c.grow.result.0 in
    let small = value_lt m (search rules) in
    let none_over : c.grow.result.1 ≡ 0 = omega arith in
    let whole : value m ≡ value a.self * a.base + a.digit = omega (arith, c.grow.ensures) in
    (lt-ltb _ (2 ^ 128) (omega arith), whole)
