use Rattle.paper.proofs.RunAllRight as Theorem
use Rattle.promises.proofs.tables.a_byte_is_what_run_says.Goals as goal

pub returns : goal.returns
returns c = Theorem.byte_is_run
