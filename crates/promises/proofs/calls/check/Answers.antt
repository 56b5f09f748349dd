-- By what is promised of the call's result.
use Rattle.paper.proofs.DemandOne.{check_answered}
use Rattle.paper.proofs.DemandTwo.{checked_right}
use Rattle.promises.proofs.calls.check.Goals as goal

pub returns : goal.returns
returns c = record { check_answered = check_answered _ _ c.check.result c.check.ensures; checked_right = checked_right _ _ c.check.result c.check.ensures }
