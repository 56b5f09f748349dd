-- The run of what the array holds, from instruction i on, is what is left of the definition's (`Going`). The measure is how many
-- instructions are left.
use Rattle.std.proofs.Common.{◌-◌}
use Rattle.keys.specs.Says.{keys_in}
use Rattle.operands.specs.Conforming.{entry_in}
use Rattle.machine.proofs.Going.{Going}
use Rattle.machine.proofs.running.run.Given as goal

abbrev pub invariant-loop-i : goal.invariant-loop-i
invariant-loop-i l = Going (keys_in l.list) (entry_in l.list l.entry) l.blocks l.n l.stack l.height l.i l.steps

abbrev pub decreases-loop-i : goal.decreases-loop-i
decreases-loop-i l = l.n - l.i
