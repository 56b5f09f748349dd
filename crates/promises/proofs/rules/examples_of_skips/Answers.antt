use Rattle.tried.proofs.SkipExamples as Theorem
use Rattle.promises.proofs.rules.examples_of_skips.Goals as goal

pub returns : goal.returns
returns c = Theorem.skip_examples
