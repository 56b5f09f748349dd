use Rattle.paper.proofs.Nodes as Theorem
use Rattle.promises.proofs.readings.nodes_within_tokens.Goals as goal

pub returns : goal.returns
returns c = Theorem.nodes_within_tokens
