use Rattle.paper.proofs.PartsCut as Theorem
use Rattle.promises.proofs.text_parts.text_is_its_parts.Goals as goal

pub returns : goal.returns
returns c = Theorem.text_is_its_parts
