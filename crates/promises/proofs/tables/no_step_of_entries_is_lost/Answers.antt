use Rattle.paper.proofs.RunAllRight as Theorem
use Rattle.promises.proofs.tables.no_step_of_entries_is_lost.Goals as goal

pub returns : goal.returns
returns c = Theorem.steps_of_entries
