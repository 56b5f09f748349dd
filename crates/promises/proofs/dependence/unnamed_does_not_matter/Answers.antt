use Rattle.paper.proofs.Dependence as Theorem
use Rattle.promises.proofs.dependence.unnamed_does_not_matter.Goals as goal

pub returns : goal.returns
returns c = Theorem.unnamed_does_not_matter
