-- `parts::cut` meets its contract. The invariant of its loop (`Going`): the stretches in the rows, and those from the next token on, are all that
-- the tape has. A token that divides ends a part (`going_divided`), any other is of the part that goes on (`going_on`).
use mathlib.Core.Path.{◌≡◌}
use lib.ListN.{length}
use Rattle.parts.proofs.Going.{Going}
use Rattle.parts.proofs.cutting.cut.Given as goal

abbrev pub invariant-loop-i : goal.invariant-loop-i
invariant-loop-i l = (length l.parts ≡ length l.initial.parts) × Going l.tape l.count l.parts l.n l.first l.depth l.i
