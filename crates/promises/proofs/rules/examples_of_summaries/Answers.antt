use Rattle.tried.proofs.SummaryExamples as Theorem
use Rattle.promises.proofs.rules.examples_of_summaries.Goals as goal

pub returns : goal.returns
returns c = Theorem.summary_examples
