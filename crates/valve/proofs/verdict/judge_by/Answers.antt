-- `valve::judge_by` meets its contract: the refusal of the entry, or the judgement of one that conforms (`judge_entered`).
use Rattle.paper.proofs.PassedUp.{passed_up}
use Rattle.valve.proofs.Verdicts.{not_entered, conforming}
use Rattle.valve.proofs.verdict.judge_by.Goals as goal

pub returns-in_err-check_entry : goal.returns-in_err-check_entry
returns-in_err-check_entry c text passed =
    let x = c.check_entry in
    rw (passed_up _ c.from_residual.ensures.1) (not_entered _ _ _ _ _ passed x.result x.ensures c.in_err-check_entry.was)

pub judge_entered-requires : goal.judge_entered-requires
judge_entered-requires c =
    let asked = c.requires in
    let x = c.check_entry in
    record { root_in_bounds = asked.root_in_bounds; conforming = conforming _ _ _ _ _ asked.by_index.1 x.result x.ensures c.in_ok-check_entry.was }
