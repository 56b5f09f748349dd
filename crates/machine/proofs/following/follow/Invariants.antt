-- Why each point is marked by what the definition holds there: before each turn the array holds the types after the first i instructions,
-- with their floors, and every point up to there is marked (`Point`). A turn that cannot be taken is where the definition's walk fails too,
-- for want of an operand (`fails_few`), of room (`fails_full`) or of a type (`fails_wrong`); every other one stands where the next begins
-- (`point_next`).
use Rattle.std.proofs.Common.{length}
use Rattle.keys.specs.Says.{keys_in}
use Rattle.machine.proofs.Types.{types_at}
use Rattle.machine.proofs.Marked.{Point}
use Rattle.machine.proofs.following.follow.Given as goal

abbrev pub invariant-loop-i : goal.invariant-loop-i
invariant-loop-i l =
    Point (types_at (keys_in l.list) l.blocks l.n) l.n (length l.initial.marks) l.marks l.stack l.height l.i
