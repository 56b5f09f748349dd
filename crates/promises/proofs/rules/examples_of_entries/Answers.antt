use Rattle.tried.proofs.EntryExamples as Theorem
use Rattle.promises.proofs.rules.examples_of_entries.Goals as goal

pub returns : goal.returns
returns c = Theorem.entry_examples
