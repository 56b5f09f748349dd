-- `number::magnitude::Magnitude::of_u64` meets its contract: a number is its lowest limb and the others.
use Rattle.std.proofs.Common.{arith}
use Rattle.number.specs.Values.{value}
use Rattle.number.proofs.magnitude.Magnitude.of_u64.Goals as goal

pub returns : goal.returns
unfolding value
returns c = omega arith
