-- Whether a tree that stands in nodes is true on an entry.
use Rattle.std.specs.Prelude.{ℕ, Bool, List}
use Rattle.paper.specs.Meaning.{value_of, is_true}
use Rattle.keys.specs.Says.{keys_in}
use Rattle.operands.specs.Conforming.{entry_in}
use Rattle.trees.specs.Standing.{tree_at}

-- the tree at a node, over a text
abbrev pub tree_holds : List ℕ → List ℕ → List ℕ → List ℕ → ℕ → Bool
tree_holds text list entry nodes i = is_true (value_of (keys_in list) (entry_in list entry) (tree_at text nodes i))
