use Rattle.paper.proofs.RunAllRight as Theorem
use Rattle.promises.proofs.tables.stretches_join.Goals as goal

pub returns : goal.returns
returns c = Theorem.stretches_join
