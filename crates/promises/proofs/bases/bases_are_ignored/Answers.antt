use Rattle.paper.proofs.BasesIgnored as Theorem
use Rattle.promises.proofs.bases.bases_are_ignored.Goals as goal

pub returns : goal.returns
returns c = Theorem.bases_ignored
