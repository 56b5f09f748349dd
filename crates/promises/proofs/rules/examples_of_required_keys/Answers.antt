use Rattle.tried.proofs.RequiredExamples as Theorem
use Rattle.promises.proofs.rules.examples_of_required_keys.Goals as goal

pub returns : goal.returns
returns c = Theorem.required_examples
