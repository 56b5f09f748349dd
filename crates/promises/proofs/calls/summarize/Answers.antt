-- By what is promised of the call's result.
use Rattle.paper.proofs.DemandOne.{summarize_answered}
use Rattle.paper.proofs.DemandTwo.{summarize_right}
use Rattle.promises.proofs.calls.summarize.Goals as goal

pub returns : goal.returns
returns c = record { summarize_answered = summarize_answered _ _ c.summarize.result c.summarize.ensures; summarize_right = summarize_right _ _ c.summarize.result c.summarize.ensures }
