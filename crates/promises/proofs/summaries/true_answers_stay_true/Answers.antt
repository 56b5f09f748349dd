use Rattle.paper.proofs.RecheckedRight as Theorem
use Rattle.promises.proofs.summaries.true_answers_stay_true.Goals as goal

pub returns : goal.returns
returns c = Theorem.fresh_if_true
