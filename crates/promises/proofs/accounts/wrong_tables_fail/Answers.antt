use Rattle.tried.proofs.WrongTables as Theorem
use Rattle.promises.proofs.accounts.wrong_tables_fail.Goals as goal

pub returns : goal.returns
returns c = Theorem.wrong_tables_fail
