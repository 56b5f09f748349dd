-- The room keeps its length, and what is left to pass over falls by it.
use Rattle.std.proofs.Common.{◌≡◌, length}
use Rattle.answers.proofs.framing.pass_over.Given as goal

abbrev pub invariant-loop-room : goal.invariant-loop-room
invariant-loop-room g l = length l.room ≡ length l.initial.room

abbrev pub decreases-loop-room : goal.decreases-loop-room
decreases-loop-room g l = l.left
