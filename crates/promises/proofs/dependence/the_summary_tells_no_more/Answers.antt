use Rattle.paper.proofs.Dependence as Theorem
use Rattle.promises.proofs.dependence.the_summary_tells_no_more.Goals as goal

pub returns : goal.returns
returns c = Theorem.summary_tells_no_more
