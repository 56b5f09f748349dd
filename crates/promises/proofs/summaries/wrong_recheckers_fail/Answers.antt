use Rattle.tried.proofs.WrongRecheckers as Theorem
use Rattle.promises.proofs.summaries.wrong_recheckers_fail.Goals as goal

pub returns : goal.returns
returns c = Theorem.wrong_recheckers_fail
