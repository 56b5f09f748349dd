-- Ten million is the seventh power of ten, and any other base is raised to it.
use native.Mathlib.Nat.{one-le-pow}
use Rattle.std.proofs.Common.{arith}
use Rattle.number.proofs.magnitude.Magnitude.cut.Goals as goal

pub divide-requires-2 : goal.divide-requires-2
divide-requires-2 c =
    rw c.cut_by.ensures (one-le-pow 7 c.args.base (omega (arith, c.requires)))
