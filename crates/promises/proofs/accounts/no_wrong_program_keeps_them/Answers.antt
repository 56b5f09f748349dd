use Rattle.tried.proofs.WrongPrograms as Theorem
use Rattle.promises.proofs.accounts.no_wrong_program_keeps_them.Goals as goal

pub returns : goal.returns
returns c = Theorem.no_wrong_program
