-- The measure: the node number, which falls from a node to its operands.
use Rattle.judging.proofs.truth.+truth_at.Given as goal

abbrev pub decreases-truth_at : goal.decreases-truth_at
decreases-truth_at l = l.at
