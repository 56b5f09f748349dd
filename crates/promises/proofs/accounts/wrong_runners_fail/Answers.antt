use Rattle.tried.proofs.WrongRunners as Theorem
use Rattle.promises.proofs.accounts.wrong_runners_fail.Goals as goal

pub returns : goal.returns
returns c = Theorem.wrong_runners_fail
