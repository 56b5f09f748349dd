use Rattle.paper.proofs.Refusals as Theorem
use Rattle.promises.proofs.readings.parsed_exactly_when.Goals as goal

pub returns : goal.returns
returns c = Theorem.parsed_is_right
