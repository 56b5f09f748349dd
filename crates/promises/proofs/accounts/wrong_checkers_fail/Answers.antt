use Rattle.tried.proofs.WrongCheckers as Theorem
use Rattle.promises.proofs.accounts.wrong_checkers_fail.Goals as goal

pub returns : goal.returns
returns c = Theorem.wrong_checkers_fail
