use Rattle.paper.proofs.PiecesRight as Theorem
use Rattle.promises.proofs.pieces.pieces_are_what_is_named.Goals as goal

pub returns : goal.returns
returns c = Theorem.pieces_shown
