use Rattle.paper.proofs.PiecesRight as Theorem
use Rattle.promises.proofs.pieces.one_piece_and_no_second.Goals as goal

pub returns : goal.returns
returns c = Theorem.one_shown
