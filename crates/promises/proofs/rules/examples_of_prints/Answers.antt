use Rattle.tried.proofs.PrintExamples as Theorem
use Rattle.promises.proofs.rules.examples_of_prints.Goals as goal

pub returns : goal.returns
returns c = Theorem.print_examples
