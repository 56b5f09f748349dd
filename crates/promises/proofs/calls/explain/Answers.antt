-- By what is promised of the call's result.
use Rattle.paper.proofs.DemandOne.{explain_answered}
use Rattle.paper.proofs.DemandTwo.{explain_right}
use Rattle.promises.proofs.calls.explain.Goals as goal

pub returns : goal.returns
returns c = record { explain_answered = explain_answered _ _ _ c.reason.result c.reason.ensures; explain_right = explain_right _ _ _ c.reason.result c.reason.ensures }
