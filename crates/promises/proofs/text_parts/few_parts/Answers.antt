use Rattle.paper.proofs.PartsInText as Theorem
use Rattle.promises.proofs.text_parts.few_parts.Goals as goal

pub returns : goal.returns
returns c = Theorem.few_parts
