-- What `check` promises is all that demand 1 asks of it.
use Rattle.paper.proofs.DemandOne.{check_answered}
use Rattle.valve.proofs.account.checked.Goals as goal

pub returns : goal.returns
returns c = check_answered _ _ c.check.result c.check.ensures
