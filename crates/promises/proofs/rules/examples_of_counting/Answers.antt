use Rattle.tried.proofs.CountExamples as Theorem
use Rattle.promises.proofs.rules.examples_of_counting.Goals as goal

pub returns : goal.returns
returns c = Theorem.count_examples
