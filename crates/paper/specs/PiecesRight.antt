-- 02 c, "handed back as the piece itself .. no copy": what is known of an explanation with its pieces. There is one for all inputs, and no second;
-- a part's piece is its stretch of the text, and a key's is its name; and a copy is none.
--
-- What is fixed of a piece that has a byte is its pointer, its length and its bytes; of an empty one, its block and that it is empty. A
-- reference's `name` is the prover's own, and stands in no memory.
use Rattle.std.specs.Prelude.{ℕ, ◌-◌, ◌≡◌, List, [], length}
use Rattle.std.proofs.Math.Option.{some}
use Rattle.std.proofs.Math.ListN.{get_elem?}
use Rattle.std.specs.Borrow.{Bor}
use Rattle.paper.specs.declared.Explanation.{Explanation}
use Rattle.paper.specs.declared.Explanation.TheVariants as X
use Rattle.paper.specs.Answers.{ok, Judgement}
use Rattle.paper.specs.Numbers.{bytes_at}
use Rattle.paper.specs.Keys.{Key, keys}
use Rattle.paper.specs.Explained.{key_index, stretch_from}
use Rattle.paper.specs.ExplainedRight.{PieceOfText}
use Rattle.paper.specs.Pieces.{ExplainedPromised}

-- an explanation with its pieces
pub record Shown : Type 0 where
  pub why : Explanation
  pub text : Bor (List ℕ)
  pub list : Bor (List ℕ)

abbrev pub ShownPromised : Bor (List ℕ) → Bor (List ℕ) → List ℕ → Shown → Type 0
ShownPromised text list entry r = ExplainedPromised text list entry r.why r.text r.list

-- one, and no second

pub record SamePiece (r q : Bor (List ℕ)) : Type 0 where
  pub bytes : r.now ≡ q.now
  pub block : r.ref_ptr.0 ≡ q.ref_ptr.0
  pub offset : ¬ (r.now ≡ []) → r.ref_ptr.1 ≡ q.ref_ptr.1

pub record SameShown (r q : Shown) : Type 0 where
  pub why : r.why ≡ q.why
  pub text : SamePiece r.text q.text
  pub list : SamePiece r.list q.list

pub record OneShown : Type 0 where
  pub there_is : (text list : Bor (List ℕ)) (entry : List ℕ) → (r : Shown) × ShownPromised text list entry r
  pub no_second : (text list : Bor (List ℕ)) (entry : List ℕ) (r q : Shown) → ShownPromised text list entry r
      → ShownPromised text list entry q → SameShown r q

-- what the bytes of a piece are

-- of a part: its stretch, which lies in the text and has a byte
pub record ShowsPart (text : List ℕ) (place from to : ℕ) (piece : List ℕ) : Type 0 where
  pub lies : PieceOfText text place (stretch_from from to)
  pub bytes : piece ≡ bytes_at text from (to - from)
  pub size : length piece ≡ to - from
  pub some : ¬ (piece ≡ [])

-- of a key: its name, by the record's place in the entry
pub record ShowsName (list : List ℕ) (place : ℕ) (piece : List ℕ) : Type 0 where
  pub ks : List Key
  pub listed : keys list ≡ ok ks
  pub key : Key
  pub there : get_elem? ks (key_index place) ≡ some key
  pub bytes : piece ≡ key.name
  pub some : ¬ (piece ≡ [])

pub record PiecesShown : Type 0 where
  pub of_part : (text list : Bor (List ℕ)) (entry : List ℕ) (number place from to : ℕ) (piece name : Bor (List ℕ))
      → ExplainedPromised text list entry (X.Part number place from to) piece name
      → ShowsPart text.now place from to piece.now × (name.now ≡ [])
  pub of_key : (text list : Bor (List ℕ)) (entry : List ℕ) (place from to : ℕ) (piece name : Bor (List ℕ))
      → ExplainedPromised text list entry (X.Key place from to) piece name
      → (piece.now ≡ []) × ShowsName list.now place name.now
  pub of_nothing : (text list : Bor (List ℕ)) (entry : List ℕ) (j : Judgement) (piece name : Bor (List ℕ))
      → ExplainedPromised text list entry (X.Nothing j) piece name → (piece.now ≡ []) × (name.now ≡ [])

-- a copy: the bytes of a piece, elsewhere
pub record CopyOf (r q : Bor (List ℕ)) : Type 0 where
  pub bytes : q.now ≡ r.now
  pub elsewhere : ¬ (q.ref_ptr ≡ r.ref_ptr)

-- it is no piece, wherever a piece has a byte
pub record CopiesNoPieces : Type 0 where
  pub of_text : (text list : Bor (List ℕ)) (entry : List ℕ) (r q : Shown) → ShownPromised text list entry r → ¬ (r.text.now ≡ [])
      → CopyOf r.text q.text → ¬ ShownPromised text list entry q
  pub of_list : (text list : Bor (List ℕ)) (entry : List ℕ) (r q : Shown) → ShownPromised text list entry r → ¬ (r.list.now ≡ [])
      → CopyOf r.list q.list → ¬ ShownPromised text list entry q
