-- An operator at a node.
use Rattle.std.specs.Prelude.{ℕ, ◌≡◌, List}
use Rattle.trees.specs.declared.node.Node.TheVariants.{Before, Between}
use Rattle.trees.specs.declared.node.Prefix.{Prefix}
use Rattle.trees.specs.declared.node.Operator.{Operator}
use Rattle.trees.specs.Nodes.{node_at}

-- it stands before its operand
abbrev pub BeforeAt : List ℕ → ℕ → Type 0
BeforeAt nodes at = (o : Prefix) × (Before o ≡ node_at nodes at)

-- it stands between two operands, of which the left one is there
abbrev pub BetweenAt : List ℕ → ℕ → ℕ → Type 0
BetweenAt nodes at left = (o : Operator) × (Between o left ≡ node_at nodes at)
