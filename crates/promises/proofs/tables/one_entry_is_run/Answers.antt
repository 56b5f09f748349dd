use Rattle.paper.proofs.RunAllRight as Theorem
use Rattle.promises.proofs.tables.one_entry_is_run.Goals as goal

pub returns : goal.returns
returns c = Theorem.one_is_run
