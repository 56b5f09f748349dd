use Rattle.tried.proofs.WrongPrograms as Theorem
use Rattle.promises.proofs.accounts.padding_is_seen.Goals as goal

pub returns : goal.returns
returns c = Theorem.padding_seen
