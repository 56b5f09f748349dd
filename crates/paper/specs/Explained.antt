-- 02 c: "For a violated entry, name the first false part .., by its number from 1 and its root's place. For an entry refused with 20 at a
-- key record, name the key instead. The reason is handed back as the piece itself: a stretch of the restriction text or the name in the
-- key list, no copy. .. Accepted entries and other refusals get "nothing to show" and their own answer."
--
-- Here is how a reason is found, with one walk of each part at most. What it is to be stands in ExplainedRight, in terms of the
-- judgement; its `ExplainedIsRight` says that this is it, and that there is no other.
use Rattle.std.specs.Prelude.{ℕ, ◌+◌, ◌*◌, ◌-◌, ◌/◌, Bool, true, cond, ◌&&◌, List, [], ◌∷◌, eqb, leb}
use Rattle.std.proofs.Math.Option.{Option, none, some}
use Rattle.paper.specs.declared.Explanation.{Explanation}
use Rattle.paper.specs.declared.Explanation.TheVariants as X
use Rattle.paper.specs.Answers.{Answer, ok, refused, ◌>>=◌, judgement_says}
use Rattle.paper.specs.Numbers.{byte_at}
use Rattle.paper.specs.Keys.{Key, record_size, record_at}
use Rattle.paper.specs.Entry.{Entry, head_size, match_size, entry_of}
use Rattle.paper.specs.Grammar.{place_of}
use Rattle.paper.specs.Meaning.{value_of, is_true}
use Rattle.paper.specs.Calls.{restriction}
use Rattle.paper.specs.Parts.{Stretch, Part, parts}

-- a part: its number, its root's place and its stretch of the text; a key: its record's place in the entry, its index from 0 and the
-- stretch of its name in the list; or an answer
pub data Reason : Type 0 where
  in_part : ℕ → ℕ → Stretch → Reason
  at_key : ℕ → ℕ → Stretch → Reason
  nothing_to_show : Answer Bool → Reason

-- "the first false part"

abbrev pub holds_on : List Key → Entry → Part → Bool
holds_on ks e p = is_true (value_of ks e p.root)

abbrev pub first_false : (Part → Bool) → List Part → Option Part
first_false holds [] = none
first_false holds (p ∷ ps) =
    let later = first_false holds ps in
    cond (holds p) later (some p)

-- of a text, list and entry that pass; an entry is violated exactly where there is one
unfoldable pub false_part : List ℕ → List ℕ → List ℕ → Answer (Option Part)
unfolding restriction entry_of parts value_of
false_part text list entry =
    restriction text list
    >>= λ r. entry_of r.keys entry
    >>= λ e. parts text
    >>= λ ps. ok (first_false (holds_on r.keys e) ps)

-- "refused with 20 at a key record": 20 after the priority

abbrev pub is_record : ℕ → ℕ → Bool
is_record n at = eqb n 20 && leb head_size at

abbrev pub key_index : ℕ → ℕ
key_index at = (at - head_size) / match_size

-- 01: "Byte 0: name length .. Bytes 16 to 79: the name"

abbrev pub name_start : ℕ
name_start = 16

abbrev pub name_stretch : List ℕ → ℕ → Stretch
name_stretch list k =
    let from = k * record_size + name_start in
    record { from = from; to = from + byte_at (record_at list k) 0 }

-- the reason

abbrev pub reason_for : List ℕ → Answer (Option Part) → Reason
reason_for list (ok (some p)) = in_part p.number (place_of p.root) p.stretch
reason_for list (ok none) = nothing_to_show (ok true)
reason_for list (refused n i at) = cond (is_record n at) (at_key at (key_index at) (name_stretch list (key_index at))) (nothing_to_show (refused n i at))

unfoldable pub explain_answer : List ℕ → List ℕ → List ℕ → Reason
unfolding false_part
explain_answer text list entry = reason_for list (false_part text list entry)

-- what each case of the public answer says; a record's place tells its key

abbrev pub stretch_from : ℕ → ℕ → Stretch
stretch_from from to = record { from = from; to = to }

abbrev pub explanation_says : Explanation → Reason
explanation_says (X.Part number place from to) = in_part number place (stretch_from from to)
explanation_says (X.Key place from to) = at_key place (key_index place) (stretch_from from to)
explanation_says (X.Nothing j) = nothing_to_show (judgement_says j)
