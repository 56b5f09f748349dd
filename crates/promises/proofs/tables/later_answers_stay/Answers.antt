use Rattle.paper.proofs.RunAllRight as Theorem
use Rattle.promises.proofs.tables.later_answers_stay.Goals as goal

pub returns : goal.returns
returns c = Theorem.later_stay
