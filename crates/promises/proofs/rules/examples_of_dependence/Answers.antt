use Rattle.tried.proofs.DependenceExamples as Theorem
use Rattle.promises.proofs.rules.examples_of_dependence.Goals as goal

pub returns : goal.returns
returns c = Theorem.dependence_examples
