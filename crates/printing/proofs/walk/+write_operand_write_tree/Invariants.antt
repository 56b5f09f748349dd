-- The measures: two for each node number, which falls from a node to its operands, and one more for an operand, which is written as the tree
-- at the same node.
use Rattle.std.proofs.Common.{◌+◌, ◌*◌}
use Rattle.printing.proofs.walk.+write_operand_write_tree.Given as goal

abbrev pub decreases-write_operand : goal.decreases-write_operand
decreases-write_operand l = 2 * l.node + 1

abbrev pub decreases-write_tree : goal.decreases-write_tree
decreases-write_tree l = 2 * l.node
