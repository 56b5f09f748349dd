-- The measure: the node number, which falls from a node to its operands.
use Rattle.summarizing.proofs.walk.+summary_at.Given as goal

abbrev pub decreases-summary_at : goal.decreases-summary_at
decreases-summary_at l = l.at
