-- Why the first landing that does not fit is found: before each turn the landings of the earlier instructions fit (`Compared`). A landing
-- up to where the types were followed fits exactly where its mark is that after the skip (`next_same`, `stops_here`), and one past it is
-- not compared (`next_past`). An instruction that passes nothing over lands on the next one, whose mark is its own.
use Rattle.machine.proofs.Fitting.{Compared}
use Rattle.machine.proofs.checking.misfit.Given as goal

abbrev pub invariant-loop-i : goal.invariant-loop-i
invariant-loop-i l = Compared l.blocks l.n l.marks l.upto l.i
