use Rattle.tried.proofs.WrongDrafters as Theorem
use Rattle.promises.proofs.accounts.wrong_drafters_fail.Goals as goal

pub returns : goal.returns
returns c = Theorem.wrong_drafters_fail
