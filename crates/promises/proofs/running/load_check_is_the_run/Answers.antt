use Rattle.paper.proofs.LoadedBlocksRun as Theorem
use Rattle.promises.proofs.running.load_check_is_the_run.Goals as goal

pub returns : goal.returns
returns c = Theorem.check_is_run
