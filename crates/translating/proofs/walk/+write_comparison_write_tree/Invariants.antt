-- The measures: two for each node number, and one more for the function that calls the other at the same node.
use Rattle.std.proofs.Common.{◌+◌, ◌*◌}
use Rattle.translating.proofs.walk.+write_comparison_write_tree.Given as goal

abbrev pub decreases-write_comparison : goal.decreases-write_comparison
decreases-write_comparison l = l.at * 2

abbrev pub decreases-write_tree : goal.decreases-write_tree
decreases-write_tree l = l.at * 2 + 1
