use Rattle.paper.proofs.InstructionsRoundTrip as Theorem
use Rattle.promises.proofs.translations.instructions_have_one_spelling.Goals as goal

pub returns : goal.returns
returns c = Theorem.bytes_again
