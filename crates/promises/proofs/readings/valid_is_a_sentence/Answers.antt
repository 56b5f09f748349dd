use Rattle.paper.proofs.Sentences as Theorem
use Rattle.promises.proofs.readings.valid_is_a_sentence.Goals as goal

pub returns : goal.returns
returns c = Theorem.valid_is_sentence
