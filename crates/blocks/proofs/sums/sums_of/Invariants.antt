-- The words before a byte are added (`Added`), at first those of whole fours, and those after it are still to come.
use Prim.Native.Nat.{◌-◌}
use mathlib.Core.Path.{◌≡◌}
use lib.ListN.{length, drop}
use Rattle.std.specs.Slice.Iter.{chunks_exact_rest, chunks_exact_size}
use Rattle.blocks.specs.Sealed.{Added}
use Rattle.blocks.proofs.sums.sums_of.Given as goal

abbrev pub invariant-loop-pair : goal.invariant-loop-pair
invariant-loop-pair l =
    let rest = chunks_exact_rest l.pair-iterator in
    let i = length l.s - length rest in
    (chunks_exact_size l.pair-iterator ≡ 2) × (rest ≡ drop i l.s) × Added l.s i l.sums.first l.sums.second
