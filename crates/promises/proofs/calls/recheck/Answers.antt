-- By what is promised of the call's result.
use Rattle.paper.proofs.DemandOne.{recheck_answered}
use Rattle.paper.proofs.DemandTwo.{recheck_right}
use Rattle.promises.proofs.calls.recheck.Goals as goal

pub returns : goal.returns
returns c = record { recheck_answered = recheck_answered _ _ _ _ _ c.recheck.result c.recheck.ensures; recheck_right = recheck_right _ _ _ _ _ c.recheck.result c.recheck.ensures }
