use Rattle.paper.proofs.Dependence as Theorem
use Rattle.promises.proofs.dependence.the_summary_tells_all.Goals as goal

pub returns : goal.returns
returns c = Theorem.summary_tells_all
