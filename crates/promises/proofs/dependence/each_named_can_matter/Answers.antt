use Rattle.paper.proofs.CanMatter as Theorem
use Rattle.promises.proofs.dependence.each_named_can_matter.Goals as goal

pub returns : goal.returns
returns c = Theorem.each_named_can_matter
