-- Why every longer number ends with these digits: before each turn as many of them are left as there are bytes from the first one on to i, and
-- with them each longer number is as it is to be. A turn writes the last of them before the others (`cut_more`).
use Rattle.std.proofs.Common.{◌≡◌, suc, ◌-◌, ◌<◌, ◌∙◌, arith, length-set}
use Rattle.number.proofs.Cuts.{cut_more, cut_less}
use Rattle.number.proofs.numeral.put_cut.Goals as goal

pub loop-i-preserved : goal.loop-i-preserved
loop-i-preserved c =
    let base = c.args.base in
    let i = c.loop-i.i in
    let first = c.args.end - 7 in
    let k = i - 1 - first in
    let turns : first < i = c.loop-i-test.true in
    let step : i - first ≡ suc k = omega arith in (
      omega (arith, turns),
      simp length-set c.loop-i.invariant.1,
      cut_less base k c.loop-i.left c.requires.le_base.0 (rw step at c.loop-i.invariant.2),
      λ high some.
          rw c.digit_byte.ensures
          (cut_more base high k c.loop-i.left c.requires.le_base.0 some c.loop-i.bytes i (omega arith)
          (omega (arith, c.loop-i.auto.i, c.loop-i.invariant.1, c.requires.le_end))
          ∙ (rw step at (c.loop-i.invariant.3 high some))),
    )
