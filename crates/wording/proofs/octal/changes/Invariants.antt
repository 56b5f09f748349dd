-- Both offsets stay above 0, so that the byte before each is there; more bytes of the text are passed than numerals are counted; and what is left of
-- the text falls.
use Rattle.std.proofs.Common.{◌-◌, ◌<◌, length}
use Rattle.wording.proofs.octal.changes.Given as goal

abbrev pub invariant-loop-at : goal.invariant-loop-at
invariant-loop-at g l = (l.count < l.at) × (0 < l.to)

abbrev pub decreases-loop-at : goal.decreases-loop-at
decreases-loop-at g l = length l.text - l.at
