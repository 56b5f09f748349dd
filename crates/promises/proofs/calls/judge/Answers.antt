-- By what is promised of the call's result.
use Rattle.paper.proofs.DemandOne.{judge_answered}
use Rattle.paper.proofs.DemandTwo.{judged_right}
use Rattle.promises.proofs.calls.judge.Goals as goal

pub returns : goal.returns
returns c = record { judge_answered = judge_answered _ _ _ c.judge.result c.judge.ensures; judged_right = judged_right _ _ _ c.judge.result c.judge.ensures }
