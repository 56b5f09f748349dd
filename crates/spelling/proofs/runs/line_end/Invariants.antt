-- `spelling::line_end` meets its contract. The invariant of its loop: the line from here on ends where the whole line ends. Where it goes on
-- through a stride, the stride is passed over (`span_skip`); what is left is a run by itself. The measure is how many bytes are left.
use Prim.Native.Nat.{◌+◌, ◌-◌, ◌≤◌}
use mathlib.Core.Path.{◌≡◌}
use lib.ListN.{length}
use Rattle.spelling.specs.Runs.{line_more}
use Rattle.spelling.proofs.runs.line_end.Given as goal

abbrev pub invariant-loop-i : goal.invariant-loop-i
invariant-loop-i l = (l.i ≤ length l.text) × (l.i + line_more l.text l.i ≡ l.at + line_more l.text l.at)

abbrev pub decreases-loop-i : goal.decreases-loop-i
decreases-loop-i l = length l.text - l.i
