use Rattle.paper.proofs.BytesInOrder as Theorem
use Rattle.promises.proofs.octal.other_bytes_stay_in_order.Goals as goal

pub returns : goal.returns
returns c = Theorem.in_order
