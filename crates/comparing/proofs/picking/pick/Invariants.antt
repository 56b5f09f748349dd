-- `comparing::pick` meets its contract. The invariant of its loop: the first part from k on that comes last is the first of all.
use Prim.Native.Nat.{ℕ}
use mathlib.Core.Path.{◌≡◌}
use mathlib.Core.List.{List}
use Rattle.paper.specs.Code.{Instruction}
use Rattle.paper.specs.Comparing.{records_from}
use Rattle.comparing.specs.Scratch.{Stand}
use Rattle.comparing.specs.Picking.{first_from, comes_last}
use Rattle.comparing.proofs.Picked.{first_of}
use Rattle.comparing.proofs.picking.pick.Given as goal

abbrev pub invariant-loop-k : goal.invariant-loop-k
invariant-loop-k l =
    ((cs : ℕ → List Instruction) → Stand l.code l.starts l.n cs
    → first_of (comes_last l.used cs (records_from l.blocks 0 l.left)) l.n l.k ≡ first_from (comes_last l.used cs (records_from l.blocks 0 l.left)) 0 l.n)
