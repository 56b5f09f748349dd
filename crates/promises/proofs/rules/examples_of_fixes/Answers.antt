use Rattle.tried.proofs.FixExamples as Theorem
use Rattle.promises.proofs.rules.examples_of_fixes.Goals as goal

pub returns : goal.returns
returns c = Theorem.fix_examples
