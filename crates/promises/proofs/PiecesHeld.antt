-- From what is promised of an explanation with its pieces to demand 2 of each.
use Prim.Native.Nat.{ℕ}
use mathlib.Core.List.{List}
use denote.Ref.{Bor}
use Rattle.paper.specs.declared.Explanation.{Explanation}
use Rattle.paper.specs.Pieces.{ExplainedPromised}
use Rattle.paper.specs.PiecesRight.{Shown}
use Rattle.paper.proofs.DemandTwo.{explain_right}
use Rattle.paper.proofs.PiecesRight.{one_shown}
use Rattle.promises.specs.PiecesHeld.{TextPieceRight, ListPieceRight}

module _ (text list : Bor (List ℕ)) (entry : List ℕ) (why : Explanation) where
  abbrev shown : Bor (List ℕ) → Bor (List ℕ) → Shown
  shown piece name = record { why = why; text = piece; list = name }

  pub text_piece_right : (piece name : Bor (List ℕ)) → ExplainedPromised text list entry why piece name → TextPieceRight text list entry piece
  text_piece_right piece name promised =
      record {
        why = why;
        right = explain_right text.now list.now entry why promised.says;
        piece = promised.in_text;
        no_second = λ q other. (one_shown.no_second text list entry (shown piece name) q promised other).text;
      }

  pub list_piece_right : (name piece : Bor (List ℕ)) → ExplainedPromised text list entry why piece name → ListPieceRight text list entry name
  list_piece_right name piece promised =
      record {
        why = why;
        right = explain_right text.now list.now entry why promised.says;
        piece = promised.in_list;
        no_second = λ q other. (one_shown.no_second text list entry (shown piece name) q promised other).list;
      }
