-- `valve::translate_long` meets its contract: the refusal of text or list, which leaves the buffer (`stopped`, `kept`), or the translation by the
-- root (`translate_by`), whose words the nodes have.
use Rattle.paper.proofs.PassedUp.{passed_up}
use Rattle.reading.proofs.Stages.{rooted, not_restricted}
use Rattle.valve.proofs.Translates.{stopped, kept}
use Rattle.valve.proofs.writing.translate_long.Goals as goal

pub returns-in_err-root : goal.returns-in_err-root
returns-in_err-root c =
    let e = not_restricted _ _ _ c.restrict.result c.restrict.ensures c.in_err-root.was in
    rw (passed_up _ c.from_residual.ensures.1) (record { says = stopped _ _ _ e; holds = kept _ _ _ e })

pub translate_by-requires : goal.translate_by-requires
translate_by-requires c =
    let r = rooted _ _ _ c.restrict.result c.restrict.ensures c.in_ok-root.was in
    record { root_in_bounds = r.typed.has; by_index = (_, r) }

pub returns : goal.returns
returns c = c.translate_by.ensures _ (rooted _ _ _ c.restrict.result c.restrict.ensures c.in_ok-root.was)
