-- The fours before a byte are added (`Fours`), and the words after it are still to come.
use Prim.Native.Nat.{◌-◌}
use mathlib.Core.Path.{◌≡◌}
use lib.ListN.{length, drop}
use Rattle.std.specs.Slice.Iter.{chunks_exact_rest, chunks_exact_size}
use Rattle.blocks.proofs.Fours.{Fours}
use Rattle.blocks.proofs.sums.sums_of_fours.Given as goal

abbrev pub invariant-loop-four : goal.invariant-loop-four
invariant-loop-four l =
    let rest = chunks_exact_rest l.four-iterator in
    let i = length l.s - length rest in
    (chunks_exact_size l.four-iterator ≡ 8)
    × (rest ≡ drop i l.s)
    × Fours l.s i l.a.first l.b.first l.c.first l.d.first l.a.second l.b.second l.c.second l.d.second
