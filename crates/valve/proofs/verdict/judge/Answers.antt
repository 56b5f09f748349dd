-- `valve::judge` meets its contract: the refusal of text or list (`not_passed`), or the judgement by the root (`judge_by`).
use Rattle.paper.proofs.PassedUp.{passed_up}
use Rattle.valve.proofs.Verdicts.{not_passed}
use Rattle.valve.proofs.verdict.judge.Goals as goal

pub returns-in_err-with_root : goal.returns-in_err-with_root
returns-in_err-with_root c =
    rw (passed_up _ c.from_residual.ensures.1) (not_passed _ _ _ _ c.in_err-with_root.ensures)
