use Rattle.paper.proofs.Refusals as Theorem
use Rattle.promises.proofs.readings.read_exactly_the_valid.Goals as goal

pub returns : goal.returns
returns c = Theorem.read_is_valid
