-- The line so far starts at or before the place, and the lines before it are counted (the five facts of the invariant); what is left
-- up to the place falls.
use Prim.Native.Nat.{suc, ◌+◌, ◌-◌, ◌≤◌}
use mathlib.Core.Path.{◌≡◌}
use mathlib.Core.Logic.{◌⊎◌}
use lib.ListN.{get_or, drop}
use Rattle.paper.specs.Tokens.{span}
use Rattle.spelling.specs.Runs.{in_run, EndsAt}
use Rattle.spelling.specs.declared.runs.Run.TheVariants.{Line}
use Rattle.wording.specs.Lines.{breaks}
use Rattle.wording.proofs.caret.line_of.Given as goal

abbrev pub invariant-loop-to : goal.invariant-loop-to
invariant-loop-to l =
    (l.from ≤ l.at)
    × ((l.from ≡ 0) ⊎ (get_or l.text (l.from - 1) 0 ≡ 10))
    × EndsAt l.text l.from (span (in_run Line) (drop l.from l.text)) l.to
    × (l.number ≤ l.from + 1)
    × (l.number + breaks (drop l.from l.text) ≡ suc (breaks l.text))

abbrev pub decreases-loop-to : goal.decreases-loop-to
decreases-loop-to l = l.at - l.to
