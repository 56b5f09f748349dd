-- The measures: two for each node number, which falls from a node to its operands, and one more for
-- the function that calls the others at the same node.
use Rattle.std.proofs.Common.{◌+◌, ◌*◌}
use Rattle.typing.proofs.walk.+before_at_between_at_type_at.Given as goal

abbrev pub decreases-before_at : goal.decreases-before_at
decreases-before_at l = l.at * 2

abbrev pub decreases-between_at : goal.decreases-between_at
decreases-between_at l = l.at * 2

abbrev pub decreases-type_at : goal.decreases-type_at
decreases-type_at l = l.at * 2 + 1
