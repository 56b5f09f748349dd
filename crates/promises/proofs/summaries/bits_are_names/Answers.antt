use Rattle.paper.proofs.RecheckedRight as Theorem
use Rattle.promises.proofs.summaries.bits_are_names.Goals as goal

pub returns : goal.returns
returns c = Theorem.bits_are_names
