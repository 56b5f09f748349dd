-- `valve::compare` meets its contract: the refusal of text or list (`text_refused`), or the comparison by the parts (`compare_by`).
use Rattle.paper.proofs.PassedUp.{passed_up}
use Rattle.valve.proofs.Agreements.{text_refused}
use Rattle.valve.proofs.comparison.compare.Goals as goal

pub returns-in_err-with_parts : goal.returns-in_err-with_parts
returns-in_err-with_parts c =
    rw (passed_up _ c.from_residual.ensures.1) (text_refused _ _ _ c.in_err-with_parts.ensures)
