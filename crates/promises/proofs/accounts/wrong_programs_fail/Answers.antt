use Rattle.tried.proofs.WrongPrograms as Theorem
use Rattle.promises.proofs.accounts.wrong_programs_fail.Goals as goal

pub returns : goal.returns
returns c = Theorem.wrong_programs_fail
