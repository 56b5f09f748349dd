-- `drafting::pieces::Piece::joined` meets its contract: the operator is put behind both trees, unless the text is over the limit of tokens
-- (`put_operator`, `over_operator`).
use native.Mathlib.Omega.{arith}
use Rattle.drafting.proofs.Growing.{put_operator}
use Rattle.drafting.proofs.pieces.Piece.joined.Goals as goal

pub returns : goal.returns
returns c =
    let size = c.beside-size.ensures in record {
      near = record { small = size.small; some = omega arith; close = omega arith };
      grown = λ list first t u h g.
          put_operator list _ first c.args.o h g _ (size.sized t u h.sized g.sized) _ c.if-size-gt-MOST_TOKENS.false c.requires.right.fits c.put_operator.ensures;
    }
