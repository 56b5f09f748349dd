use Rattle.tried.proofs.Readings as Theorem
use Rattle.promises.proofs.rules.readings_shown.Goals as goal

pub returns : goal.returns
returns c = Theorem.readings
