use Rattle.paper.proofs.PartsInText as Theorem
use Rattle.promises.proofs.text_parts.at_most_512_parts.Goals as goal

pub returns : goal.returns
returns c = Theorem.at_most_parts
