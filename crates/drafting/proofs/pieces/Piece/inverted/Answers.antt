-- `drafting::pieces::Piece::inverted` meets its contract: where "!" is asked for it is put behind the tree, unless the text is over the limit of
-- tokens (`put_prefix`, `over_prefix`).
use native.Mathlib.Omega.{arith}
use Rattle.drafting.proofs.Growing.{put_prefix}
use Rattle.drafting.proofs.pieces.Piece.inverted.Goals as goal

pub returns : goal.returns
returns c =
    let size = c.prefixed-size.ensures in record {
      near = record { small = size.small; some = omega arith; close = omega arith };
      grown = λ list first t h.
          rw c.if-not-yes.false
          (put_prefix list _ first h _ (size.sized t h.sized) _ c.if-size-gt-MOST_TOKENS.false c.requires.fits c.put_prefix.ensures);
    }
