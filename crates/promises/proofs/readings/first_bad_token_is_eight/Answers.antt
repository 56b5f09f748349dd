use Rattle.paper.proofs.Refusals as Theorem
use Rattle.promises.proofs.readings.first_bad_token_is_eight.Goals as goal

pub returns : goal.returns
returns c = Theorem.first_bad_is_eight
