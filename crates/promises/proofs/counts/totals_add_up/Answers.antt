use Rattle.paper.proofs.CountedRight as Theorem
use Rattle.promises.proofs.counts.totals_add_up.Goals as goal

pub returns : goal.returns
returns c = Theorem.totals_add_up
