-- `typing::all_held` meets its contract. The invariant of its loop: what the whole tree spells is what the tree at i spells, under the sign
-- so far (`minus_spelled`, `turned`), and i is no larger than `at`. The measure is i, since an operand stands below its operator (`below`).
use Prim.Native.Nat.{ℕ, ◌≤◌}
use mathlib.Core.Path.{◌≡◌}
use mathlib.Core.List.{List}
use Rattle.paper.specs.Types.{spelled}
use Rattle.trees.specs.Standing.{tree_at}
use Rattle.typing.specs.Says.{signed_as}
use Rattle.typing.proofs.bits.all_held.Given as goal

abbrev pub invariant-loop-negative : goal.invariant-loop-negative
invariant-loop-negative l =
    (l.i ≤ l.at) × ((text : List ℕ) → spelled (tree_at text l.nodes l.at) ≡ signed_as l.negative (spelled (tree_at text l.nodes l.i)))

abbrev pub decreases-loop-negative : goal.decreases-loop-negative
decreases-loop-negative l = l.i
