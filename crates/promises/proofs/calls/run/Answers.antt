-- By what is promised of the call's result.
use Rattle.paper.proofs.DemandOne.{run_answered}
use Rattle.paper.proofs.RunsRight.{ran_right}
use Rattle.promises.proofs.calls.run.Goals as goal

pub returns : goal.returns
returns c = record { run_answered = run_answered _ _ _ c.run.result c.run.ensures; ran_right = ran_right _ _ _ c.run.result c.run.ensures }
