use Rattle.tried.proofs.BitsExamples as Theorem
use Rattle.promises.proofs.rules.examples_of_lost_bits.Goals as goal

pub returns : goal.returns
returns c = Theorem.bits_examples
