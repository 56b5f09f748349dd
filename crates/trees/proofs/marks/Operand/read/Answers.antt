-- `trees::Operand::read` meets its contract: the leaf and the two marks are those of the definition `operand_at`.
use Rattle.trees.specs.Marks.{operand_at}
use Rattle.trees.proofs.marks.Operand.read.Goals as goal

pub returns : goal.returns
unfolding operand_at
returns c = rw (← c.read-leaf.ensures) c.operand_of.ensures
