-- What is left over counts from 2^128 on (`rest_of`).
use Rattle.std.proofs.Common.{◌*◌, ◌+◌, ◌^◌, rules}
use Rattle.number.specs.Values.{value}
use Rattle.number.proofs.Carries.{rest_of}
use Rattle.number.proofs.Limbs.{value_lt}
use Rattle.number.proofs.magnitude.Magnitude.wrapping_grow.Goals as goal

pub returns : goal.returns
returns c =
    let a = c.args in
    rest_of (2 ^ 128) (value c.grow.result.0) c.grow.result.1 (value a.self * a.base + a.digit) (value_lt c.grow.result.0 (search rules)) c.grow.ensures
