-- 02 c: "The reason is handed back as the piece itself: a stretch of the restriction text or the name in the key list, no copy."
--
-- A reference points to a block of memory and an offset in it. A piece that is no copy lies in the block of its input, as far after the input's
-- first byte as its stretch begins. An empty piece has no byte to lie anywhere: only its block is told.
use Rattle.std.specs.Prelude.{ℕ, ◌+◌, ◌≡◌, List, []}
use Rattle.std.proofs.Math.Seq.{slice}
use Rattle.std.specs.Borrow.{Bor}
use Rattle.paper.specs.declared.Explanation.{Explanation}
use Rattle.paper.specs.declared.Explanation.TheVariants as X
use Rattle.paper.specs.Promised.{ExplainPromised}

-- r is the stretch of s from one offset up to another, itself
pub record PartOf (from to : ℕ) (s r : Bor (List ℕ)) : Type 0 where
  pub bytes : r.now ≡ slice from to s.now
  pub block : r.ref_ptr.0 ≡ s.ref_ptr.0
  pub offset : ¬ (r.now ≡ []) → r.ref_ptr.1 ≡ from + s.ref_ptr.1

-- "a stretch of the restriction text": for a part; else an empty one
abbrev pub InText : Explanation → Bor (List ℕ) → Bor (List ℕ) → Type 0
InText (X.Part number place from to) s r = PartOf from to s r
InText (X.Key place from to) s r = PartOf 0 0 s r
InText (X.Nothing j) s r = PartOf 0 0 s r

-- "or the name in the key list": for a key; else an empty one
abbrev pub InList : Explanation → Bor (List ℕ) → Bor (List ℕ) → Type 0
InList (X.Part number place from to) s r = PartOf 0 0 s r
InList (X.Key place from to) s r = PartOf from to s r
InList (X.Nothing j) s r = PartOf 0 0 s r

-- what is promised of an explanation with its pieces: one of the text, and one of the list
pub record ExplainedPromised (text list : Bor (List ℕ)) (entry : List ℕ) (why : Explanation) (piece name : Bor (List ℕ)) : Type 0 where
  pub says : ExplainPromised text.now list.now entry why
  pub in_text : InText why text piece
  pub in_list : InList why list name
