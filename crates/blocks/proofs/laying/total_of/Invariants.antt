-- The counts from block k on add up to the count of block k and those after it (`counts_on`).
use Prim.Native.Nat.{◌≤◌, ◌-◌, ◌+◌, ◌*◌}
use mathlib.Core.Path.{◌≡◌}
use Rattle.paper.specs.Blocks.{counts_from}
use Rattle.blocks.proofs.laying.total_of.Given as goal

abbrev pub invariant-loop-k : goal.invariant-loop-k
invariant-loop-k l =
    (l.sum ≤ 65535 * l.k) × (l.sum + counts_from l.blocks l.k (l.n - l.k) ≡ counts_from l.blocks 0 l.n)
