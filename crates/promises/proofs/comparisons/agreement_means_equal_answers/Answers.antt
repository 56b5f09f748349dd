use Rattle.paper.proofs.Compared as Theorem
use Rattle.promises.proofs.comparisons.agreement_means_equal_answers.Goals as goal

pub returns : goal.returns
returns c = Theorem.agreement_means_equal
