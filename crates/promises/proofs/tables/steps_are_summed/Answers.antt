use Rattle.paper.proofs.RunAllRight as Theorem
use Rattle.promises.proofs.tables.steps_are_summed.Goals as goal

pub returns : goal.returns
returns c = Theorem.steps_are_runs
