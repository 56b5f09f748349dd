use Rattle.paper.proofs.PartsInText as Theorem
use Rattle.promises.proofs.text_parts.parts_in_the_text.Goals as goal

pub returns : goal.returns
returns c = Theorem.parts_in_text
