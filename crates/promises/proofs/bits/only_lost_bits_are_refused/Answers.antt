use Rattle.paper.proofs.BitsKept as Theorem
use Rattle.promises.proofs.bits.only_lost_bits_are_refused.Goals as goal

pub returns : goal.returns
returns c = Theorem.only_lost_bits
