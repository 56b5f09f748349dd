use Rattle.paper.proofs.PartsDecide as Theorem
use Rattle.promises.proofs.text_parts.parts_decide.Goals as goal

pub returns : goal.returns
returns c = Theorem.parts_decide
