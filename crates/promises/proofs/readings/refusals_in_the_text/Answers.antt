use Rattle.paper.proofs.Offsets as Theorem
use Rattle.promises.proofs.readings.refusals_in_the_text.Goals as goal

pub returns : goal.returns
returns c = Theorem.refusals_in_text
