use Rattle.std.proofs.Common.{arith}
use Rattle.number.specs.Values.{value}
use Rattle.number.proofs.magnitude.Magnitude.of.Goals as goal

pub returns : goal.returns
unfolding value
returns c =
    omega arith
