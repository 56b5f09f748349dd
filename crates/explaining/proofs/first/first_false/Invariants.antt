-- `explaining::first_false` meets its contract. The invariant of its loop: the first false part from row k on is the first of all, since those
-- before are true.
use Prim.Native.Nat.{ℕ}
use mathlib.Core.Path.{◌≡◌}
use mathlib.Core.List.{List}
use Rattle.reading.specs.Parted.{Parted}
use Rattle.explaining.specs.FirstFalse.{first_in}
use Rattle.explaining.proofs.RowByRow.{first_from}
use Rattle.explaining.proofs.first.first_false.Given as goal

abbrev pub invariant-loop-k : goal.invariant-loop-k
invariant-loop-k l =
    (text : List ℕ) → Parted text l.list l.nodes l.rows l.n → first_from text l.list l.entry l.nodes l.rows l.n l.k ≡ first_in text l.list l.entry l.nodes l.rows l.n
