-- The turns bound the entries, so no count can overflow; and both parts keep their length.
use Rattle.std.proofs.Common.{◌≡◌, ◌*◌, ◌≤◌, length}
use Rattle.streaming.specs.Tallies.{total}
use Rattle.streaming.proofs.rechecks.recheck_turns.Given as goal

abbrev pub invariant-loop-turn : goal.invariant-loop-turn
invariant-loop-turn g l =
    (length l.old ≡ length l.initial.old)
    × (length l.new ≡ length l.initial.new)
    × (total l.counts.tally ≤ 65536 * l._turn)
    × (l.counts.reused ≤ total l.counts.tally)
