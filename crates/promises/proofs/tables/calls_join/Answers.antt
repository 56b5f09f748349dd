use Rattle.paper.proofs.RunAllRight as Theorem
use Rattle.promises.proofs.tables.calls_join.Goals as goal

pub returns : goal.returns
returns c = Theorem.calls_join
