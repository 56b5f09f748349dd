use Rattle.tried.proofs.WrongPrints as Theorem
use Rattle.promises.proofs.accounts.wrong_printers_fail.Goals as goal

pub returns : goal.returns
returns c = Theorem.wrong_prints_fail
