use Rattle.tried.proofs.WrongCopiers as Theorem
use Rattle.promises.proofs.pieces.copies_fail.Goals as goal

pub returns : goal.returns
returns c = Theorem.pieces_not_copied
