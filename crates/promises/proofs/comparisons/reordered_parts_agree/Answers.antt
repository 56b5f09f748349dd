use Rattle.paper.proofs.Compared as Theorem
use Rattle.promises.proofs.comparisons.reordered_parts_agree.Goals as goal

pub returns : goal.returns
returns c = Theorem.reordered_agree
