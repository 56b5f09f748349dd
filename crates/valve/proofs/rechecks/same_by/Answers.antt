-- `valve::same_by` meets its contract: an old entry that is refused is the same in nothing (`old_refused`); of two that conform, what the
-- tree names decides (`both_enter`).
use mathlib.Core.Path.{◌∙◌}
use Rattle.reading.proofs.Stages.{root_known}
use Rattle.valve.proofs.Verdicts.{conforming}
use Rattle.valve.proofs.Compared.{both_enter}
use Rattle.valve.proofs.rechecks.same_by.Goals as goal

pub same_named-requires : goal.same_named-requires
same_named-requires c =
    let x = c.check_entry in
    record { conforming = conforming _ _ _ _ _ c.requires.by_index.1 x.result x.ensures c.in-Ok.is; conforming_2 = c.requires.conforming }

pub returns : goal.returns
returns c text passed =
    let x = c.check_entry in
    c.same_named.ensures _ _ (c.summary_at-summary.ensures _ _ (root_known _ _ _ _ passed))
    ∙ both_enter _ _ _ _ _ _ passed (conforming _ _ _ _ _ passed x.result x.ensures c.in-Ok.is) c.requires.conforming
