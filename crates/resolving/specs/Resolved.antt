-- The names of a tree's nodes, resolved: the nodes are as they were, and their marks are those of their names.
use Rattle.std.specs.Prelude.{ℕ, ◌≡◌, List, length}
use Rattle.paper.specs.Keys.{Key}
use Rattle.trees.specs.Nodes.{node_at, leaf_at, place_at}
use Rattle.trees.specs.Marks.{operand_at, operand_on, Marked}

-- nothing but marks has changed
pub record Keeps (before after : List ℕ) : Type 0 where
  pub size : length after ≡ length before
  pub nodes : (i : ℕ) → node_at after i ≡ node_at before i
  pub leaves : (i : ℕ) → leaf_at after i ≡ leaf_at before i
  pub places : (i : ℕ) → place_at after i ≡ place_at before i

-- of one node
pub record ResolvesAt (ks : List Key) (text before after : List ℕ) (i : ℕ) : Type 0 where
  pub keeps : Keeps before after
  pub here : operand_at after i ≡ operand_on ks text (leaf_at after i)
  pub elsewhere : (j : ℕ) → (j ≡ i → ⊥) → operand_at after j ≡ operand_at before j

-- of the nodes below n
pub record Resolves (ks : List Key) (text before after : List ℕ) (n : ℕ) : Type 0 where
  pub keeps : Keeps before after
  pub marked : Marked ks text after n
