use Rattle.tried.proofs.WrongComparers as Theorem
use Rattle.promises.proofs.accounts.wrong_comparers_fail.Goals as goal

pub returns : goal.returns
returns c = Theorem.wrong_comparers_fail
