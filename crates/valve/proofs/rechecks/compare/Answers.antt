-- `valve::compare` of rechecks meets its contract: the refusal of text or list (`not_passed`), or what is found by the root (`compare_by`).
use Rattle.valve.proofs.Compared.{not_passed}
use Rattle.valve.proofs.rechecks.compare.Goals as goal

pub returns-in-Err : goal.returns-in-Err
returns-in-Err c = not_passed _ _ _ _ _ c.in-Err.ensures
