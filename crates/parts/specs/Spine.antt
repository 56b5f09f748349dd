-- The roots of the trees that are joined by ";" from the left into the tree at a node.
use Rattle.std.specs.Prelude.{ℕ, zero, suc, ◌-◌, ◌≤◌, ◌≡◌, List, [], ◌∷◌, ◌++◌}
use Rattle.trees.specs.Nodes.{node_at, left_of}
use Rattle.parts.specs.Rows.{stretches_on, roots_on}

-- of n trees: the last is the node's right operand, which is the node before it, and the others are joined at its left operand
unfoldable pub spine : List ℕ → ℕ → ℕ → List ℕ
unfolding node_at
spine nodes i zero = []
spine nodes i (suc zero) = i ∷ []
spine nodes i (suc (suc n)) = spine nodes (left_of (node_at nodes i)) (suc n) ++ ((i - 1) ∷ [])

-- a node's left operand; of a node without one, the first node
pub record LeftOf (nodes : List ℕ) (i l : ℕ) : Type 0 where
  pub is : l ≡ left_of (node_at nodes i)
  pub below : l ≤ i

-- n rows have their roots, and their stretches as before
pub record Rooted (nodes : List ℕ) (root : ℕ) (before after : List ℕ) (n : ℕ) : Type 0 where
  pub roots : roots_on after n ≡ spine nodes root n
  pub kept : stretches_on after n ≡ stretches_on before n
