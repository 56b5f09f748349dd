use Rattle.paper.proofs.CountedRight as Theorem
use Rattle.promises.proofs.counts.chunks_add_up.Goals as goal

pub returns : goal.returns
returns c = Theorem.chunks_add_up
