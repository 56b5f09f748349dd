-- A tree that has a type, for the walks that ask for one.
use Rattle.std.specs.Prelude.{ℕ, ◌+◌, ◌≡◌, List}
use Rattle.paper.specs.Answers.{ok}
use Rattle.paper.specs.Types.{Ty, type_of}
use Rattle.keys.specs.Says.{keys_in}
use Rattle.trees.specs.Standing.{tree_at}
use Rattle.trees.specs.Marks.{Marked}

-- the tree at a node has a type over a text, whose names the marks are
pub record Known (list nodes : List ℕ) (at : ℕ) (text : List ℕ) : Type 0 where
  pub marked : Marked (keys_in list) text nodes (at + 1)
  pub type : Ty
  pub typed : type_of (keys_in list) (tree_at text nodes at) ≡ ok type
