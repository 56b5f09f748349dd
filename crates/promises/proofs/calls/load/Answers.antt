-- By what is promised of the call's result.
use Rattle.paper.proofs.DemandOne.{load_answered}
use Rattle.promises.proofs.calls.load.Goals as goal

pub returns : goal.returns
returns c = load_answered _ _ c.load.result c.load.ensures
