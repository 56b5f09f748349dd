use Rattle.tried.proofs.BlockExamples as Theorem
use Rattle.promises.proofs.rules.examples_of_blocks.Goals as goal

pub returns : goal.returns
returns c = Theorem.block_examples
