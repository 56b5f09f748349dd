use Rattle.paper.proofs.Promised as Theorem
use Rattle.promises.proofs.accounts.no_second_result.Goals as goal

pub returns : goal.returns
returns c = Theorem.no_second_result
