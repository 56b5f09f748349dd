-- A comparison at a node, and operands that are leaves.
use Rattle.std.specs.Prelude.{ℕ, ◌≡◌, Bool, true, false, List}
use Rattle.trees.specs.declared.node.Node.{Node}
use Rattle.trees.specs.declared.node.Node.TheVariants.{Without, Before, Between}
use Rattle.trees.specs.declared.node.Comparison.{Comparison}
use Rattle.trees.specs.declared.node.Operator.TheVariants.{Compares}
use Rattle.trees.specs.Nodes.{node_at}

-- the node is a comparison, and its left operand stands there
abbrev pub ComparesAt : List ℕ → ℕ → ℕ → Type 0
ComparesAt nodes at left = (c : Comparison) × (Between (Compares c) left ≡ node_at nodes at)

abbrev pub is_leaf : Node → Bool
is_leaf Without = true
is_leaf (Before o) = false
is_leaf (Between o left) = false
