use Rattle.tried.proofs.RunAllExamples as Theorem
use Rattle.promises.proofs.rules.examples_of_tables.Goals as goal

pub returns : goal.returns
returns c = Theorem.run_all_examples
