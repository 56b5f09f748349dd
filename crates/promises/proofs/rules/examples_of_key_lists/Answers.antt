use Rattle.tried.proofs.KeyExamples as Theorem
use Rattle.promises.proofs.rules.examples_of_key_lists.Goals as goal

pub returns : goal.returns
returns c = Theorem.key_examples
