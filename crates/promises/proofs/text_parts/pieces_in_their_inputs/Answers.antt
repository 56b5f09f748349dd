use Rattle.paper.proofs.ExplainedRight as Theorem
use Rattle.promises.proofs.text_parts.pieces_in_their_inputs.Goals as goal

pub returns : goal.returns
returns c = Theorem.pieces_in_inputs
