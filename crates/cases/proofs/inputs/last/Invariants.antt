-- `cases::inputs::last` meets its contract. The invariant of its loop: the last line of all is the last of those from here on, or the one found
-- before them. A turn takes the line here if it gives the input (`better`); a line past the offset decides nothing (`heads_past`). The measure is
-- how many bytes are left.
use Prim.Native.Nat.{◌-◌, ◌≤◌}
use mathlib.Core.Path.{◌≡◌}
use mathlib.Core.Bool.{true}
use lib.ListN.{length, drop}
use Rattle.cases.specs.Inputs.{heads, last_of, gives, last_line}
use Rattle.cases.proofs.inputs.last.Given as goal

abbrev pub invariant-loop-at : goal.invariant-loop-at
invariant-loop-at l = (l.found ≤ length l.file) × (last_of (gives l.file l.to l.input) l.found (heads l.at true (drop l.at l.file)) ≡ last_line l.file l.to l.input)

abbrev pub decreases-loop-at : goal.decreases-loop-at
decreases-loop-at l = length l.file - l.at
