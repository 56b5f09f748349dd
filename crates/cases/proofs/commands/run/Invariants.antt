-- The room keeps its length, and each step takes at least a byte of the file.
use Rattle.std.proofs.Common.{◌-◌, length}
use Rattle.cases.proofs.commands.run.Given as goal

abbrev pub decreases-loop-at : goal.decreases-loop-at
decreases-loop-at g l = length l.file - l.at
