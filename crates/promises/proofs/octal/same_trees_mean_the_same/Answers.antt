use Rattle.paper.proofs.SameMeaning as Theorem
use Rattle.promises.proofs.octal.same_trees_mean_the_same.Goals as goal

pub returns : goal.returns
returns c = Theorem.same_meaning
