-- Each entry takes at least a byte of those that are left, so there are no more of them than bytes.
use Rattle.std.proofs.Common.{◌+◌, ◌<◌, ◌≤◌, length}
use Rattle.std.specs.Slice.Iter.{chunks_rest, chunks_size}
use Rattle.streaming.specs.Tallies.{total}
use Rattle.streaming.proofs.entries.judge_held.Given as goal

abbrev pub invariant-loop-entry : goal.invariant-loop-entry
invariant-loop-entry g l =
    (0 < chunks_size l.entry-iterator) × (total l.tally + length (chunks_rest l.entry-iterator) ≤ total l.initial.tally + length l.entries)
