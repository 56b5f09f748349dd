use Rattle.paper.proofs.Sentences as Theorem
use Rattle.promises.proofs.readings.one_tree.Goals as goal

pub returns : goal.returns
returns c = Theorem.one_tree
