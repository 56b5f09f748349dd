use Rattle.paper.proofs.ExplainedRight as Theorem
use Rattle.promises.proofs.text_parts.explained_as_judged.Goals as goal

pub returns : goal.returns
returns c = Theorem.explained_as_judged
