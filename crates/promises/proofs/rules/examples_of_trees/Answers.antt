use Rattle.tried.proofs.TreeExamples as Theorem
use Rattle.promises.proofs.rules.examples_of_trees.Goals as goal

pub returns : goal.returns
returns c = Theorem.tree_examples
