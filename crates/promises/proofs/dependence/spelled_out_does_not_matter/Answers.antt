use Rattle.paper.proofs.Dependence as Theorem
use Rattle.promises.proofs.dependence.spelled_out_does_not_matter.Goals as goal

pub returns : goal.returns
returns c = Theorem.spelled_out_does_not_matter
