use Rattle.paper.proofs.CountedRight as Theorem
use Rattle.promises.proofs.counts.none_violated_when_no_part_is.Goals as goal

pub returns : goal.returns
returns c = Theorem.none_violated_by_none
