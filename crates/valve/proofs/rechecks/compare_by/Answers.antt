-- `valve::compare_by` meets its contract: the refusal of the new entry (`new_refused`), the earlier answer where both are the same in all that
-- the tree names (`reused_as_given`), or else the judgement of the new one (`judged_afresh`).
use mathlib.Core.Path.{sym, ◌∙◌}
use Rattle.valve.proofs.Verdicts.{conforming}
use Rattle.valve.proofs.Compared.{reused_as_given, judged_afresh, new_refused}
use Rattle.valve.proofs.rechecks.compare_by.Goals as goal

pub returns-in-Err : goal.returns-in-Err
returns-in-Err c text passed =
    let x = c.check_entry in
    new_refused _ _ _ _ _ _ passed x.result x.ensures c.in-Err.is

pub same_by-requires-clause-conforming : goal.same_by-requires-clause-conforming
same_by-requires-clause-conforming c =
    let x = c.check_entry in
    conforming _ _ _ _ _ c.requires.by_index.1 x.result x.ensures c.in-Ok.is

pub returns-in-Ok : goal.returns-in-Ok
returns-in-Ok c text passed = reused_as_given _ _ _ _ (sym (c.same_by.ensures text passed) ∙ c.if-same_by.true)

pub judge_entered-requires-clause-conforming : goal.judge_entered-requires-clause-conforming
judge_entered-requires-clause-conforming c =
    let x = c.check_entry in
    conforming _ _ _ _ _ c.requires.by_index.1 x.result x.ensures c.in-Ok.is

pub returns-in-Ok-2 : goal.returns-in-Ok-2
returns-in-Ok-2 c text passed =
    judged_afresh _ _ _ _ (sym (c.same_by.ensures text passed) ∙ c.if-same_by.false) c.judge_entered.result (c.judge_entered.ensures text passed)
