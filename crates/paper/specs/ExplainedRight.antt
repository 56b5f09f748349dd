-- 02 c, once more: what the reason is to be, in terms of the judgement, with nothing of how it is found. And what is known of the one
-- that is found: it is that and no other, the judgement can be read off it, and the piece lies in its input.
use Rattle.std.specs.Prelude.{ℕ, suc, ◌+◌, ◌*◌, ◌-◌, ◌≤◌, ◌<◌, ◌≡◌, ◌↔◌, Bool, true, false, List, ◌∷◌, ◌++◌, length}
use Rattle.std.proofs.Math.Option.{some}
use Rattle.std.proofs.Math.ListN.{get_elem?}
use Rattle.paper.specs.Answers.{Input, in_entry, Answer, ok, refused}
use Rattle.paper.specs.Numbers.{bytes_at}
use Rattle.paper.specs.Keys.{Key, keys}
use Rattle.paper.specs.Entry.{Entry, head_size, match_size, entry_of}
use Rattle.paper.specs.Grammar.{place_of}
use Rattle.paper.specs.Calls.{judge_answer}
use Rattle.paper.specs.BlocksRoundTrip.{All}
use Rattle.paper.specs.Parts.{Stretch, Part, parts}
use Rattle.paper.specs.Explained.{Reason, in_part, at_key, nothing_to_show, holds_on, name_stretch, explain_answer}
use Rattle.paper.specs.PartsDecide.{StretchIn}

-- "the first false part": it is false, and those before it are true
pub record FirstFalse (text list entry : List ℕ) : Type 0 where
  pub ks : List Key
  pub listed : keys list ≡ ok ks
  pub on : Entry
  pub conforms : entry_of ks entry ≡ ok on
  pub before : List Part
  pub part : Part
  pub after : List Part
  pub split : parts text ≡ ok (before ++ (part ∷ after))
  pub held : All (λ p. holds_on ks on p ≡ true) before
  pub fails : holds_on ks on part ≡ false

-- the place of a key's record in an entry
abbrev pub record_place : ℕ → ℕ
record_place k = head_size + k * match_size

-- "Accepted entries and other refusals"
pub data NothingToShow : Answer Bool → Type 0 where
  accepted : NothingToShow (ok true)
  other_refusal : (n : ℕ) (i : Input) (at : ℕ) → ((k : ℕ) → n ≡ 20 → ¬ (at ≡ record_place k)) → NothingToShow (refused n i at)

-- "For a violated entry, name the first false part .., by its number from 1 and its root's place. For an entry refused with 20 at a key
-- record, name the key instead. .. Accepted entries and other refusals get "nothing to show" and their own answer."
pub data Explains (text list entry : List ℕ) : Reason → Type 0 where
  names_part : judge_answer text list entry ≡ ok false → (f : FirstFalse text list entry)
      → Explains text list entry (in_part (suc (length f.before)) (place_of f.part.root) f.part.stretch)
  names_key : (k : ℕ) → judge_answer text list entry ≡ refused 20 in_entry (record_place k)
      → Explains text list entry (at_key (record_place k) k (name_stretch list k))
  shows_nothing : (a : Answer Bool) → judge_answer text list entry ≡ a → NothingToShow a → Explains text list entry (nothing_to_show a)

-- the claims

-- the explanation is that, and nothing else
abbrev pub ExplainedIsRight : Type 0
ExplainedIsRight = (text list entry : List ℕ) (r : Reason) → (explain_answer text list entry ≡ r) ↔ Explains text list entry r

-- it never contradicts the judgement, which can be read off it

abbrev pub judgement_of : Reason → Answer Bool
judgement_of (in_part number place s) = ok false
judgement_of (at_key place k s) = refused 20 in_entry place
judgement_of (nothing_to_show a) = a

abbrev pub ExplainedAsJudged : Type 0
ExplainedAsJudged = (text list entry : List ℕ) → judgement_of (explain_answer text list entry) ≡ judge_answer text list entry

-- the piece lies in its input: a part's, with its root's place in it, in the text; and a key's in the list, where it is the key's name

pub record PieceOfText (text : List ℕ) (place : ℕ) (s : Stretch) : Type 0 where
  pub stretch : StretchIn text s
  pub from : s.from ≤ place
  pub to : place < s.to

pub record PieceOfList (list : List ℕ) (k : ℕ) (s : Stretch) : Type 0 where
  pub stretch : StretchIn list s
  pub ks : List Key
  pub listed : keys list ≡ ok ks
  pub key : Key
  pub there : get_elem? ks k ≡ some key
  pub name : bytes_at list s.from (s.to - s.from) ≡ key.name

pub record PiecesInInputs : Type 0 where
  pub of_part : (text list entry : List ℕ) (number place : ℕ) (s : Stretch) → explain_answer text list entry ≡ in_part number place s
      → PieceOfText text place s
  pub of_key : (text list entry : List ℕ) (place k : ℕ) (s : Stretch) → explain_answer text list entry ≡ at_key place k s
      → PieceOfList list k s
