use Rattle.paper.proofs.RunAllRight as Theorem
use Rattle.promises.proofs.tables.a_byte_tells_which.Goals as goal

pub returns : goal.returns
returns c = Theorem.byte_tells
