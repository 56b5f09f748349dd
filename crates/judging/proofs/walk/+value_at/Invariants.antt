-- The measure: the node number, which falls from a node to its operands.
use Rattle.judging.proofs.walk.+value_at.Given as goal

abbrev pub decreases-value_at : goal.decreases-value_at
decreases-value_at l = l.at
