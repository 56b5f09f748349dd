use Rattle.tried.proofs.CaseFour as Theorem
use Rattle.promises.proofs.rules.case_four.Goals as goal

pub returns : goal.returns
returns c = Theorem.case_four
