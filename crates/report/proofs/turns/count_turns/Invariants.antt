-- What was read so far is the start of one file, of whole entries while there are turns, and the numbers are those of it (`Reaches`). The measure
-- is the number of turns.
use Rattle.std.proofs.Common.{ℕ, ◌≡◌, ◌≤◌, ◌<◌, List, length}
use Rattle.paper.specs.Counting.{cut_in, most_entries}
use Rattle.keys.specs.Says.{keys_in}
use Rattle.reading.specs.Parted.{PassedParts}
use Rattle.report.specs.declared.course.Course.{Course}
use Rattle.report.specs.Reached.{rule_of, Reaches}
use Rattle.report.proofs.turns.count_turns.Given as goal

-- what was read so far is the start of one file, whose numbers stand over others
pub record OneFile (list nodes rows : List ℕ) (n : ℕ) (base : List ℕ) (course : Course) (after : List ℕ) (turns : ℕ) : Type 0 where
  pub start : List ℕ
  pub whole : 0 < turns → cut_in (keys_in list) start ≡ 0
  pub reaches : (text : List ℕ) (p : PassedParts text list nodes rows n) → Reaches (rule_of text list nodes rows n p) base start course after

abbrev pub invariant-loop-turns : goal.invariant-loop-turns
invariant-loop-turns g l = record {
  long : length l.part ≡ length l.initial.part;
  many : length l.counts ≡ length l.initial.counts;
  few : l.course.whole ≤ most_entries;
  one : OneFile l.parted.list.now l.parted.nodes.now l.parted.rows.now l.parted.n l.initial.counts l.course l.counts l.turns;
}

abbrev pub decreases-loop-turns : goal.decreases-loop-turns
decreases-loop-turns g l = l.turns
