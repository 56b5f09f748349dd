-- Demand 2 of a piece that a real call handed back: some explanation that is right by 02 shows it, and every one that keeps the promise shows
-- no other.
use Rattle.std.specs.Prelude.{ℕ, List}
use Rattle.std.specs.Borrow.{Bor}
use Rattle.paper.specs.declared.Explanation.{Explanation}
use Rattle.paper.specs.Demands.{ExplainRight}
use Rattle.paper.specs.Pieces.{InText, InList}
use Rattle.paper.specs.PiecesRight.{Shown, ShownPromised, SamePiece}

pub record TextPieceRight (text list : Bor (List ℕ)) (entry : List ℕ) (r : Bor (List ℕ)) : Type 0 where
  pub why : Explanation
  pub right : ExplainRight text.now list.now entry why
  pub piece : InText why text r
  pub no_second : (q : Shown) → ShownPromised text list entry q → SamePiece r q.text

pub record ListPieceRight (text list : Bor (List ℕ)) (entry : List ℕ) (r : Bor (List ℕ)) : Type 0 where
  pub why : Explanation
  pub right : ExplainRight text.now list.now entry why
  pub piece : InList why list r
  pub no_second : (q : Shown) → ShownPromised text list entry q → SamePiece r q.list
