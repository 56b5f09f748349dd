-- `counting::add_false` meets its contract. The invariant of its loop (`Missed`): the numbers of the first k parts have grown where these are false
-- on the entry, and it is known whether all of them are true. A part that is false is one more (`missed_false`), one that is true changes nothing
-- (`missed_true`).
use Prim.Native.Nat.{ℕ}
use mathlib.Core.Path.{◌≡◌}
use mathlib.Core.List.{List}
use lib.ListN.{length}
use Rattle.judging.specs.Holding.{tree_holds}
use Rattle.parts.specs.Rows.{root_at}
use Rattle.reading.specs.Parted.{Parted}
use Rattle.counting.proofs.Missed.{Missed}
use Rattle.counting.proofs.misses.add_false.Given as goal

abbrev pub invariant-loop-k : goal.invariant-loop-k
invariant-loop-k l =
    (length l.counts ≡ length l.initial.counts)
    × ((text : List ℕ) → Parted text l.list l.nodes l.rows l.n → Missed (λ j. tree_holds text l.list l.entry l.nodes (root_at l.rows j)) l.k l.initial.counts l.counts l.all)
