use Rattle.tried.proofs.TypeExamples as Theorem
use Rattle.promises.proofs.rules.examples_of_types.Goals as goal

pub returns : goal.returns
returns c = Theorem.type_examples
