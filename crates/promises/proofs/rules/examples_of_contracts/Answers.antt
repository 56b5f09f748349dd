use Rattle.tried.proofs.DraftExamples as Theorem
use Rattle.promises.proofs.rules.examples_of_contracts.Goals as goal

pub returns : goal.returns
returns c = Theorem.draft_examples
