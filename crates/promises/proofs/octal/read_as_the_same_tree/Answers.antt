use Rattle.paper.proofs.SameTree as Theorem
use Rattle.promises.proofs.octal.read_as_the_same_tree.Goals as goal

pub returns : goal.returns
returns c = Theorem.same_tree
