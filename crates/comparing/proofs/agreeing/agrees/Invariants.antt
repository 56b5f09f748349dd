-- `comparing::agrees` meets its contract. The invariant of its loop (`Round`): the parts that are free, of which there is one more than are still to
-- be taken off, fit what is left exactly where all fit all. Where no part comes last, none fit (`none_last`); the first that does is taken off
-- (`next_round`); and in the end one part must be all that is left (`all_left`).
use Prim.Native.Nat.{ℕ, ◌-◌, ◌≤◌}
use mathlib.Core.List.{List}
use Rattle.paper.specs.Code.{Instruction}
use Rattle.comparing.specs.Scratch.{Stand}
use Rattle.comparing.proofs.Picked.{Round}
use Rattle.comparing.proofs.agreeing.agrees.Given as goal

abbrev pub invariant-loop-round : goal.invariant-loop-round
invariant-loop-round l =
    (l.left ≤ l.total) × ((cs : ℕ → List Instruction) → Stand l.code l.starts l.n cs → Round l.blocks l.total l.n cs l.used l.left (l.n - l._round))
