use Rattle.paper.proofs.Compared as Theorem
use Rattle.promises.proofs.comparisons.agrees_exactly_when.Goals as goal

pub returns : goal.returns
returns c = Theorem.agrees_exactly
