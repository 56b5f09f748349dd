use Rattle.paper.proofs.Promised as Theorem
use Rattle.promises.proofs.accounts.promises_can_be_kept.Goals as goal

pub returns : goal.returns
returns c = Theorem.can_be_kept
