-- The words before a byte are added (`Added`), at first those of whole fours, and those after it are still to come (`left_on`). A turn
-- adds the next one (`added_next`).
use mathlib.Core.Path.{◌∙◌}
use Rattle.blocks.proofs.Steps.{left_on}
use Rattle.blocks.proofs.Running.{added_next}
use Rattle.blocks.proofs.sums.sums_of.Goals as goal

pub loop-pair-preserved : goal.loop-pair-preserved
loop-pair-preserved c =
    let s = c.args.s.now in
    let (two, left, so_far) = c.loop-pair.invariant in
    let (size, (off, long), _) = c.in-Some.ensures.steps in (
      size ∙ two,
      left_on s _ _ _ left off,
      rw (c.with-sums.ensures.0, c.with-sums.ensures.1) (added_next s _ _ _ left off (long ∙ two) so_far c.requires _ c.turned_word.ensures),
    )
