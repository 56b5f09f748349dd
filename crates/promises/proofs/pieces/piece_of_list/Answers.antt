-- By what is promised of the explanation that the piece is one of.
use Rattle.promises.proofs.PiecesHeld.{list_piece_right}
use Rattle.promises.proofs.pieces.piece_of_list.Goals as goal

pub returns : goal.returns
returns c =
    let shown = c.explained_list.ensures in
    list_piece_right _ _ _ shown.0 _ shown.1.0 shown.1.1
