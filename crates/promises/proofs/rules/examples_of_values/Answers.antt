use Rattle.tried.proofs.MeaningExamples as Theorem
use Rattle.promises.proofs.rules.examples_of_values.Goals as goal

pub returns : goal.returns
returns c = Theorem.meaning_examples
