use Rattle.paper.proofs.CountedRight as Theorem
use Rattle.promises.proofs.counts.no_part_beyond_the_violated.Goals as goal

pub returns : goal.returns
returns c = Theorem.no_part_beyond_violated
