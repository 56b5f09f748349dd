-- Each new entry takes at least a byte of those that are left, so there are no more of them than bytes; and each is reused once at most.
use Rattle.std.proofs.Common.{◌+◌, ◌<◌, ◌≤◌, length}
use Rattle.std.specs.Iterator.Adapters.{zip_first}
use Rattle.std.specs.Slice.Iter.{chunks_rest, chunks_size}
use Rattle.streaming.specs.Tallies.{total}
use Rattle.streaming.proofs.rechecks.recheck_held.Given as goal

abbrev pub invariant-loop-new_entry : goal.invariant-loop-new_entry
invariant-loop-new_entry g l =
    (goal.iterator-loop-new_entry g).can_next l.new_entry-iterator
    × (goal.iterator-loop-new_entry g).is_finite l.new_entry-iterator
    × (0 < chunks_size (zip_first l.new_entry-iterator))
    × (total l.tally + length (chunks_rest (zip_first l.new_entry-iterator)) ≤ total l.initial.tally + length l.new)
    × (l.reused ≤ total l.tally)
