use Rattle.paper.proofs.RunAllRight as Theorem
use Rattle.promises.proofs.tables.a_table_is_its_runs.Goals as goal

pub returns : goal.returns
returns c = Theorem.table_is_its_runs
