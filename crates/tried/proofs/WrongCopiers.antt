-- A copy of a piece that has a byte is none, and `false;false` shows such a piece; the right answer, moved to a block of its own, is a copy.
use Prim.Native.Nat.{ℕ, suc, ◌+◌}
use native.Mathlib.Omega.{arith}
use mathlib.Core.Path.{◌≡◌, sym, ap, subst, ◌∙◌}
use mathlib.Core.List.{List, []}
use lib.ListN.{length}
use denote.Ref.{Bor}
use Rattle.paper.specs.declared.Explanation.{Explanation}
use Rattle.paper.specs.declared.Explanation.TheVariants as X
use Rattle.paper.specs.Pieces.{InText}
use Rattle.paper.specs.PiecesRight.{Shown, ShownPromised, CopyOf}
use Rattle.paper.proofs.Promised.{explanation_same}
use Rattle.paper.proofs.PiecesRight.{in_blocks, one_shown, copies_no_pieces}
use Rattle.tried.specs.WrongCopiers.{Hands, HandsPieces, HandsCopies, CopiesFail}
use Rattle.tried.proofs.WrongExplainers.{low, two_false, two_shown, two_lendable}

-- the one that is right
module _ (text list : Bor (List ℕ)) (entry : List ℕ) where
  abbrev the_shown : Shown
  the_shown = (one_shown.there_is text list entry).0

  shown_promised : ShownPromised text list entry the_shown
  shown_promised = (one_shown.there_is text list entry).1

-- a reference to bytes, wherever they lie
abbrev lent_at : List ℕ → Bor (List ℕ)
lent_at s = record { ref_ptr = (0, 0); now = s }

-- `false;false`, of which the first five bytes are shown
two_piece : (r : Shown) → ShownPromised (lent_at two_false) (lent_at []) low r → ¬ (r.text.now ≡ [])
two_piece r p none =
    let why : r.why ≡ X.Part 1 0 0 5 = explanation_same r.why (X.Part 1 0 0 5) (p.says ∙ two_shown) in
    let bytes = (subst (λ (w : Explanation). InText w (lent_at two_false) r.text) why p.in_text).bytes in
    let z : ◌≡◌ {A = ℕ} 0 5 = ap length (sym none ∙ bytes) in
    omega arith

copies_fail : (x : Hands) → HandsCopies x → ¬ HandsPieces x
copies_fail x copies hands =
    let text = lent_at two_false in
    let list = lent_at [] in
    let kept = shown_promised text list low in
    let (why, of_text, of_list) = copies text list low two_lendable (the_shown text list low) kept in
    copies_no_pieces.of_text text list low (the_shown text list low) (x text list low) kept (two_piece (the_shown text list low) kept) of_text
    (hands text list low two_lendable)

-- one that has a block of its own
abbrev moved : Bor (List ℕ) → Bor (List ℕ) → Bor (List ℕ) → Bor (List ℕ)
moved text list r = record { ref_ptr = (suc (text.ref_ptr.0 + list.ref_ptr.0), 0); now = r.now }

abbrev copier : Hands
copier text list entry =
    let r = the_shown text list entry in
    record { why = r.why; text = moved text list r.text; list = moved text list r.list }

-- it is none of those that are lent
moved_copies : (text list p r : Bor (List ℕ)) → p.now ≡ r.now → ¬ (suc (text.ref_ptr.0 + list.ref_ptr.0) ≡ r.ref_ptr.0) → CopyOf r (moved text list p)
moved_copies text list p r same other = record { bytes = same; elsewhere = λ e. other (ap (λ (x : ℕ × ℕ). x.0) e) }

copier_copies : HandsCopies copier
copier_copies text list entry _ r p =
    let kept = shown_promised text list entry in
    let same = one_shown.no_second text list entry (the_shown text list entry) r kept p in
    let (in_text, in_List) = in_blocks text list entry r p in (
      same.why,
      moved_copies text list (the_shown text list entry).text r.text same.text.bytes (λ e. omega (arith, e, in_text)),
      moved_copies text list (the_shown text list entry).list r.list same.list.bytes (λ e. omega (arith, e, in_List)),
    )

pub pieces_not_copied : CopiesFail
pieces_not_copied =
    record {
      no_pieces = copies_no_pieces;
      fails = copies_fail;
      there_is = (copier, copier_copies);
    }
