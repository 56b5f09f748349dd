use Rattle.paper.proofs.Compared as Theorem
use Rattle.promises.proofs.comparisons.own_blocks_agree.Goals as goal

pub returns : goal.returns
returns c = Theorem.own_agree
