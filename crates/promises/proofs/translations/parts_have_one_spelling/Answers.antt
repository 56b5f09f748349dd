use Rattle.paper.proofs.InstructionsRoundTrip as Theorem
use Rattle.promises.proofs.translations.parts_have_one_spelling.Goals as goal

pub returns : goal.returns
returns c = Theorem.parts_again
