use Rattle.paper.proofs.Offsets as Theorem
use Rattle.promises.proofs.readings.token_offsets_rise.Goals as goal

pub returns : goal.returns
returns c = Theorem.offsets_rise
