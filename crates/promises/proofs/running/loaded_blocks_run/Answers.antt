use Rattle.paper.proofs.LoadedBlocksRun as Theorem
use Rattle.promises.proofs.running.loaded_blocks_run.Goals as goal

pub returns : goal.returns
returns c = Theorem.loaded_runs
