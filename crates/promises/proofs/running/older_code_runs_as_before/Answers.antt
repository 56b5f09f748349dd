use Rattle.paper.proofs.Steps as Theorem
use Rattle.promises.proofs.running.older_code_runs_as_before.Goals as goal

pub returns : goal.returns
returns c = Theorem.older_code
