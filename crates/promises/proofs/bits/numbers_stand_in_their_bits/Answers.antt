use Rattle.paper.proofs.BitsKept as Theorem
use Rattle.promises.proofs.bits.numbers_stand_in_their_bits.Goals as goal

pub returns : goal.returns
returns c = Theorem.bits_stand
