-- `counting::tally` meets its contract. The invariant of its loop: the first k entries are counted (`Adds`). Each turn counts one more (`adds_more`,
-- `laid_next`).
use Prim.Native.Nat.{ℕ}
use mathlib.Core.Path.{◌≡◌}
use mathlib.Core.List.{List}
use lib.ListN.{length}
use Rattle.paper.specs.Counting.{laid_out}
use Rattle.keys.specs.Says.{keys_in}
use Rattle.trees.specs.Standing.{tree_at}
use Rattle.parts.specs.Rows.{part_at}
use Rattle.reading.specs.Parted.{PassedParts}
use Rattle.counting.specs.Tallied.{Adds}
use Rattle.counting.proofs.entries.tally.Given as goal

abbrev pub invariant-loop-k : goal.invariant-loop-k
invariant-loop-k l =
    (length l.counts ≡ length l.initial.counts)
    × ((text : List ℕ) (p : PassedParts text l.list l.nodes l.rows l.n)
    → Adds (keys_in l.list) (tree_at text l.nodes p.root) l.n (part_at text l.nodes l.rows) (laid_out l.size l.k l.entries) l.initial.counts l.counts l.totals)
