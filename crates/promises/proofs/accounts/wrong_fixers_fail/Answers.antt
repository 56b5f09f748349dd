use Rattle.tried.proofs.WrongFixers as Theorem
use Rattle.promises.proofs.accounts.wrong_fixers_fail.Goals as goal

pub returns : goal.returns
returns c = Theorem.wrong_fixers_fail
