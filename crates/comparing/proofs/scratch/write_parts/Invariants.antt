-- `comparing::write_parts` meets its contract. The invariant of its loop (`Reached`): the first k parts stand in the scratch, the next begins after
-- them, and the rest has room. Each turn writes one more behind them (`reached_one`).
use Prim.Native.Nat.{ℕ}
use mathlib.Core.Path.{◌≡◌}
use mathlib.Core.List.{List}
use lib.ListN.{length}
use Rattle.reading.specs.Parted.{Parted}
use Rattle.comparing.specs.Scratch.{code_at, Roomy}
use Rattle.comparing.proofs.Stored.{Reached}
use Rattle.comparing.proofs.scratch.write_parts.Given as goal

abbrev pub invariant-loop-k : goal.invariant-loop-k
invariant-loop-k l =
    (length l.code ≡ length l.initial.code)
    × (length l.starts ≡ length l.initial.starts)
    × ((text : List ℕ) → Parted text l.list l.nodes l.rows l.n → Roomy text l.list l.nodes l.rows l.n l.initial.code
    → Reached l.code l.starts l.n (code_at text l.list l.nodes l.rows) l.k l.at)
