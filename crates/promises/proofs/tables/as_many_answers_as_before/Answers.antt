use Rattle.paper.proofs.RunAllRight as Theorem
use Rattle.promises.proofs.tables.as_many_answers_as_before.Goals as goal

pub returns : goal.returns
returns c = Theorem.as_many_as_before
