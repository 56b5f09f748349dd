use Rattle.paper.proofs.NeverLonger as Theorem
use Rattle.promises.proofs.octal.never_longer.Goals as goal

pub returns : goal.returns
returns c = Theorem.never_longer
