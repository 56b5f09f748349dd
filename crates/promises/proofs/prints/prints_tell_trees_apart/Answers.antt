use Rattle.paper.proofs.PrintReadsBack as Theorem
use Rattle.promises.proofs.prints.prints_tell_trees_apart.Goals as goal

pub returns : goal.returns
returns c = Theorem.prints_tell
