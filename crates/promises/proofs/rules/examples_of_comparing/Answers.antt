use Rattle.tried.proofs.CompareExamples as Theorem
use Rattle.promises.proofs.rules.examples_of_comparing.Goals as goal

pub returns : goal.returns
returns c = Theorem.compare_examples
