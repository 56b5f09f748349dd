use Rattle.paper.proofs.DraftedRight as Theorem
use Rattle.promises.proofs.contracts.over_a_limit_is_not_read.Goals as goal

pub returns : goal.returns
returns c = Theorem.limits_are_reads
