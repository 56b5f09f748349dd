-- A piece is fixed by its stretch: its bytes, its block and, where it has a byte, its offset. The stretch is told by the numbers, of which
-- there is one answer. So there is one piece, no second, and a copy is none; its bytes are those that the explanation says.
use Prim.Native.Nat.{ℕ, zero, suc, ◌+◌, ◌-◌}
use native.Mathlib.Nat.{sub-zero, suc-sub-suc}
use native.Mathlib.Omega.{arith}
use mathlib.Core.Path.{◌≡◌, refl, sym, ap, subst, ◌∙◌}
use mathlib.Core.List.{List, [], ◌∷◌}
use lib.ListN.{length}
use lib.Seq.{slice, take-nil, length-slice}
use denote.Ref.{Bor}
use Rattle.paper.specs.declared.Explanation.{Explanation}
use Rattle.paper.specs.declared.Explanation.TheVariants as X
use Rattle.paper.specs.Numbers.{bytes_at}
use Rattle.paper.specs.Explained.{key_index, stretch_from}
use Rattle.paper.specs.PartsDecide.{StretchIn}
use Rattle.paper.specs.Pieces.{PartOf, InText, InList}
use Rattle.paper.specs.PiecesRight.{Shown, ShownPromised, SamePiece, SameShown, OneShown, PiecesShown, CopyOf, CopiesNoPieces}
use Rattle.paper.proofs.Promised.{explanation_same, no_second_result}
use Rattle.paper.proofs.ExplainedRight.{pieces_in_inputs}

-- a part of a list, as code takes it and as bytes of it are told
part : (from to : ℕ) (l : List ℕ) → slice from to l ≡ bytes_at l from (to - from)
part zero to l = rw sub-zero
part (suc from) to [] = rw (take-nil to, take-nil (to - suc from))
part (suc from) zero (x ∷ l) = let e : 0 - suc from ≡ 0 = omega arith in rw e
part (suc from) (suc to) (x ∷ l) = rw suc-sub-suc (part from to l)

-- one piece for a stretch

abbrev piece_of : ℕ → ℕ → Bor (List ℕ) → Bor (List ℕ)
piece_of from to s = record { ref_ptr = (s.ref_ptr.0, from + s.ref_ptr.1); now = slice from to s.now }

same_piece : {from to : ℕ} {s r q : Bor (List ℕ)} → PartOf from to s r → PartOf from to s q → SamePiece r q
same_piece p o =
    let bytes = p.bytes ∙ sym o.bytes in
    record {
      bytes = bytes;
      block = p.block ∙ sym o.block;
      offset = λ has. p.offset has ∙ sym (o.offset (λ none. has (bytes ∙ none)));
    }

-- what an explanation shows of an input is such a stretch, whatever it says
record Stretched (In : Bor (List ℕ) → Bor (List ℕ) → Type 0) : Type 0 where
  from : ℕ
  to : ℕ
  is_part : (s r : Bor (List ℕ)) → In s r → PartOf from to s r
  part_is : (s r : Bor (List ℕ)) → PartOf from to s r → In s r

stretched : (from to : ℕ) → Stretched (PartOf from to)
stretched from to = record { from = from; to = to; is_part = λ s r p. p; part_is = λ s r p. p }

text_stretched : (why : Explanation) → Stretched (InText why)
text_stretched (X.Part number place from to) = stretched from to
text_stretched (X.Key place from to) = stretched 0 0
text_stretched (X.Nothing j) = stretched 0 0

list_stretched : (why : Explanation) → Stretched (InList why)
list_stretched (X.Part number place from to) = stretched 0 0
list_stretched (X.Key place from to) = stretched from to
list_stretched (X.Nothing j) = stretched 0 0

module _ {In : Bor (List ℕ) → Bor (List ℕ) → Type 0} (e : Stretched In) (s : Bor (List ℕ)) where
  one_piece : In s (piece_of e.from e.to s)
  one_piece = e.part_is s (piece_of e.from e.to s) (record { bytes = refl; block = refl; offset = λ _. refl })

  no_second_piece : (r q : Bor (List ℕ)) → In s r → In s q → SamePiece r q
  no_second_piece r q p o = same_piece (e.is_part s r p) (e.is_part s q o)

-- so pieces lie in the blocks of what is lent
pub in_blocks : (text list : Bor (List ℕ)) (entry : List ℕ) (r : Shown) → ShownPromised text list entry r
    → (r.text.ref_ptr.0 ≡ text.ref_ptr.0) × (r.list.ref_ptr.0 ≡ list.ref_ptr.0)
in_blocks text list entry r p = (
  ((text_stretched r.why).is_part text r.text p.in_text).block,
  ((list_stretched r.why).is_part list r.list p.in_list).block,
)

-- one explanation with its pieces

module _ (text list : Bor (List ℕ)) (entry : List ℕ) where
  abbrev the_why : Explanation
  the_why = (no_second_result.explain text.now list.now entry).result

  abbrev the_shown : Shown
  the_shown =
      record {
        why = the_why;
        text = piece_of (text_stretched the_why).from (text_stretched the_why).to text;
        list = piece_of (list_stretched the_why).from (list_stretched the_why).to list;
      }

  shown_promised : ShownPromised text list entry the_shown
  shown_promised =
      record {
        says = (no_second_result.explain text.now list.now entry).satisfies;
        in_text = one_piece (text_stretched the_why) text;
        in_list = one_piece (list_stretched the_why) list;
      }

  same_shown : (r q : Shown) → ShownPromised text list entry r → ShownPromised text list entry q → SameShown r q
  same_shown r q p o =
      let why : q.why ≡ r.why = explanation_same q.why r.why (o.says ∙ sym p.says) in
      record {
        why = sym why;
        text =
            no_second_piece (text_stretched r.why) text r.text q.text p.in_text
            (subst (λ (w : Explanation). InText w text q.text) why o.in_text);
        list =
            no_second_piece (list_stretched r.why) list r.list q.list p.in_list
            (subst (λ (w : Explanation). InList w list q.list) why o.in_list);
      }

pub one_shown : OneShown
one_shown =
    record {
      there_is = λ text list entry. (the_shown text list entry, shown_promised text list entry);
      no_second = same_shown;
    }

-- what the bytes are

empty_piece : {s r : Bor (List ℕ)} → PartOf 0 0 s r → r.now ≡ []
empty_piece p = p.bytes

has_byte : (s piece : List ℕ) (from to : ℕ) → StretchIn s (stretch_from from to) → piece ≡ slice from to s
    → (length piece ≡ to - from) × ¬ (piece ≡ [])
has_byte s piece from to lies e =
    let size : length piece ≡ to - from = ap length e ∙ length-slice from to s lies.inside in (
      size,
      λ none. let nothing : length piece ≡ 0 = ap length none in omega (arith, size, nothing, lies.some),
    )

pub pieces_shown : PiecesShown
pieces_shown =
    record {
      of_part = λ text list entry number place from to piece name p.
          let lies = pieces_in_inputs.of_part text.now list.now entry number place (stretch_from from to) (sym p.says) in
          let (size, some) = has_byte text.now piece.now from to lies.stretch p.in_text.bytes in
          (record { lies = lies; bytes = p.in_text.bytes ∙ part from to text.now; size = size; some = some }, empty_piece p.in_list);
      of_key = λ text list entry place from to piece name p.
          let lies = pieces_in_inputs.of_key text.now list.now entry place (key_index place) (stretch_from from to) (sym p.says) in
          let (size, some) = has_byte list.now name.now from to lies.stretch p.in_list.bytes in (
            empty_piece p.in_text,
            record {
              ks = lies.ks;
              listed = lies.listed;
              key = lies.key;
              there = lies.there;
              bytes = p.in_list.bytes ∙ part from to list.now ∙ lies.name;
              some = some;
            },
          );
      of_nothing = λ text list entry j piece name p. (empty_piece p.in_text, empty_piece p.in_list);
    }

-- copies

no_copy : {r q : Bor (List ℕ)} → SamePiece r q → ¬ (r.now ≡ []) → ¬ CopyOf r q
no_copy same has copy = copy.elsewhere (λ i. (sym same.block i, sym (same.offset has) i))

pub copies_no_pieces : CopiesNoPieces
copies_no_pieces =
    record {
      of_text = λ text list entry r q p has copy o. no_copy (same_shown text list entry r q p o).text has copy;
      of_list = λ text list entry r q p has copy o. no_copy (same_shown text list entry r q p o).list has copy;
    }
