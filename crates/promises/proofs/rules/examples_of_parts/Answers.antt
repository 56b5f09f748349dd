use Rattle.tried.proofs.PartExamples as Theorem
use Rattle.promises.proofs.rules.examples_of_parts.Goals as goal

pub returns : goal.returns
returns c = Theorem.part_examples
