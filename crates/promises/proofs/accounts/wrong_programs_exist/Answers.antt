use Rattle.tried.proofs.WrongProgramsExist as Theorem
use Rattle.promises.proofs.accounts.wrong_programs_exist.Goals as goal

pub returns : goal.returns
returns c = Theorem.wrong_programs_exist
