-- `typing::shallow_type` meets its contract. The invariant of its loop: where the whole tree has a type, the tree at i has the same
-- (`minus_same`), and i is no larger than `at`. The measure is i, since an operand stands below its operator (`below`).
use Prim.Native.Nat.{ℕ, ◌≤◌}
use mathlib.Core.Path.{◌≡◌}
use mathlib.Core.List.{List}
use Rattle.paper.specs.Answers.{ok}
use Rattle.paper.specs.Types.{Ty, type_of}
use Rattle.keys.specs.Says.{keys_in}
use Rattle.trees.specs.Standing.{tree_at}
use Rattle.typing.proofs.shallow.shallow_type.Given as goal

abbrev pub invariant-loop-i : goal.invariant-loop-i
invariant-loop-i l =
    (l.i ≤ l.at) × ((text : List ℕ) (a : Ty) → type_of (keys_in l.list) (tree_at text l.nodes l.at) ≡ ok a → type_of (keys_in l.list) (tree_at text l.nodes l.i) ≡ ok a)

abbrev pub decreases-loop-i : goal.decreases-loop-i
decreases-loop-i l = l.i
