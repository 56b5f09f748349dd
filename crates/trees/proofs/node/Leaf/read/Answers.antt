-- `trees::Leaf::read` meets its contract: the six words that `leaf_of` takes are those of the definition `leaf_at`.
use Rattle.trees.specs.Nodes.{leaf_at}
use Rattle.trees.proofs.node.Leaf.read.Goals as goal

pub returns : goal.returns
unfolding leaf_at
returns c = c.leaf_of.ensures
