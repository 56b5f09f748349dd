-- The turns bound the entries, so no count can overflow.
use Rattle.std.proofs.Common.{◌≡◌, ◌*◌, ◌≤◌, length}
use Rattle.streaming.specs.Tallies.{total}
use Rattle.streaming.proofs.entries.judge_turns.Given as goal

abbrev pub invariant-loop-turn : goal.invariant-loop-turn
invariant-loop-turn g l = (length l.part ≡ length l.initial.part) × (total l.totals.tally ≤ 65536 * l._turn)
