-- `valve::reason_by` meets its contract: a refusal of the entry, whose key the list has (`entry_refused`), or the first part that is false on it
-- (`explained`).
use mathlib.Core.Path.{◌∙◌}
use Rattle.explaining.proofs.Reasons.{entry_refused, explained}
use Rattle.valve.proofs.Verdicts.{conforming}
use Rattle.valve.proofs.reasons.reason_by.Goals as goal

pub of_refusal-requires : goal.of_refusal-requires
of_refusal-requires c =
    let x = c.check_entry in
    (entry_refused _ _ _ _ _ _ c.requires.1 x.result x.ensures c.in-Err.is).listed

pub of_entry-requires : goal.of_entry-requires
of_entry-requires c =
    let x = c.check_entry in
    let passed = c.requires.1 in
    record { conforming = conforming _ _ _ _ _ passed.rooted x.result x.ensures c.in-Ok.is; by_index = (_, passed.parted) }

pub returns-in-Err : goal.returns-in-Err
returns-in-Err c text passed =
    let x = c.check_entry in
    c.of_refusal.ensures ∙ (entry_refused _ _ _ _ _ _ passed x.result x.ensures c.in-Err.is).reason

pub returns-in-Ok : goal.returns-in-Ok
returns-in-Ok c text passed =
    let x = c.check_entry in
    c.of_entry.ensures text passed.parted
    ∙ explained _ _ _ _ _ _ passed (conforming _ _ _ _ _ passed.rooted x.result x.ensures c.in-Ok.is)
