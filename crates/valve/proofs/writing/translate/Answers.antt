-- `valve::translate` meets its contract: it goes on from what `try_restrict` answers with few nodes (`root_found`): the refusal of text or list, which
-- leaves the buffer (`stopped`, `kept`), or the translation by the root (`translate_by`); and where that is over it lends more (`translate_long`).
use Rattle.valve.proofs.Tries.{root_found, root_refused}
use Rattle.valve.proofs.Translates.{stopped, kept}
use Rattle.valve.proofs.writing.translate.Goals as goal

pub translate_by-requires : goal.translate_by-requires
translate_by-requires c =
    let t = c.try_restrict in
    let r = root_found _ _ _ t.result t.ensures c.in-Ok.is in
    record { root_in_bounds = r.typed.has; by_index = (_, r) }

pub returns-in-Ok : goal.returns-in-Ok
returns-in-Ok c =
    let t = c.try_restrict in
    c.translate_by.ensures _ (root_found _ _ _ t.result t.ensures c.in-Ok.is)

pub returns-in-Err-Refused : goal.returns-in-Err-Refused
returns-in-Err-Refused c =
    let t = c.try_restrict in
    let e = root_refused _ _ _ t.result t.ensures c.in-Err-Refused.is c.in-Err-Refused.field-0-is in
    rw c.in-Err-Refused.refusal-is (record { says = stopped _ _ _ e; holds = kept _ _ _ e })
