-- Each entry takes at least a byte of those that are left, so there are no more of them than bytes.
use Rattle.std.proofs.Common.{◌+◌, ◌<◌, ◌≤◌, length}
use Rattle.std.specs.Iterator.Adapters.{enumerate_source}
use Rattle.std.specs.Slice.Iter.{chunks_rest, chunks_size}
use Rattle.streaming.specs.Tallies.{total}
use Rattle.streaming.proofs.ran.tell_each.Given as goal

abbrev pub invariant-loop-k : goal.invariant-loop-k
invariant-loop-k g l =
    (goal.iterator-loop-k g).can_next l.k-iterator
    × (goal.iterator-loop-k g).is_finite l.k-iterator
    × (0 < chunks_size (enumerate_source l.k-iterator))
    × (total l.tally + length (chunks_rest (enumerate_source l.k-iterator)) ≤ total l.initial.tally + length l.entries)
