use Rattle.paper.proofs.CountedRight as Theorem
use Rattle.promises.proofs.counts.one_entry_is_judged.Goals as goal

pub returns : goal.returns
returns c = Theorem.one_is_judged
