use Rattle.paper.proofs.Refusals as Theorem
use Rattle.promises.proofs.readings.eight_at_the_first_bad_token.Goals as goal

pub returns : goal.returns
returns c = Theorem.eight_is_first_bad
