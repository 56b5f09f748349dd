use Rattle.paper.proofs.RecheckedRight as Theorem
use Rattle.promises.proofs.summaries.reused_exactly_when.Goals as goal

pub returns : goal.returns
returns c = Theorem.reused_exactly
