-- `trees::Node::read` meets its contract: the two words that `node_of` takes are those of the definition `node_at`.
use Rattle.trees.specs.Nodes.{node_at}
use Rattle.trees.proofs.node.Node.read.Goals as goal

pub returns : goal.returns
unfolding node_at
returns c = c.node_of.ensures
