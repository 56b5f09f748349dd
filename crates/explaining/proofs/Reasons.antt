-- From the stages' answers to the reason: a refusal of text, list or entry (`stopped`), which stands at a record only where the list has a key
-- for it; or the first false part (`explained`).
use Prim.Native.Nat.{ℕ, ◌≤◌, ◌<◌}
use Rattle.std.specs.Prelude.{Result, Err}
use Rattle.paper.specs.declared.Refusal.{Refusal}
use native.Mathlib.Omega.{arith}
use mathlib.Core.Path.{◌≡◌, sym, ap, ◌∙◌}
use mathlib.Core.Logic.{◌⊎◌, inl, inr}
use mathlib.Core.Bool.{and-eq-true_iff}
use mathlib.Core.List.{List}
use lib.ListN.{length}
use lib.Dec.{eqb, leb}
use borrow.Author.Tests.{eqb-true, leb-true}
use Rattle.paper.specs.Answers.{Input, ok, refused, input_of, offset_of, says, refused_by}
use Rattle.paper.specs.Keys.{records_in, record_at}
use Rattle.paper.specs.Entry.{head_size}
use Rattle.paper.specs.Calls.{restriction, judge_answer}
use Rattle.paper.specs.Explained.{key_index, reason_for, false_part, explain_answer}
use Rattle.paper.proofs.Basics.{some_below}
use Rattle.paper.proofs.RecordsRefused.{KeyRecord, records_refused}
use Rattle.paper.proofs.ExplainedRight.{StopsAt, judge_stops, explain_stops}
use Rattle.keys.specs.Says.{keys_in, conforms}
use Rattle.keys.proofs.Records.{keys_length, name_most}
use Rattle.keys.proofs.Checked.{are_keys, most_bytes, good_record}
use Rattle.keys.proofs.Conforming.{not_entered}
use Rattle.operands.specs.Conforming.{Conforming}
use Rattle.reading.specs.Parted.{PassedParts}
use Rattle.explaining.specs.FirstFalse.{first_in}
use Rattle.explaining.specs.KeyShown.{HasKey, Listed}

-- the key of a record's place
has_key : (list : List ℕ) (at : ℕ) → KeyRecord list at → HasKey list (key_index at)
has_key list at k =
    let index : key_index at ≡ k.index = omega (arith, k.place) in
    let below = some_below k.ks k.index k.key k.there in
    let count : length k.ks ≡ records_in list = ap length (are_keys list k.listed) ∙ keys_length list 0 (records_in list) in
    let inside : key_index at < records_in list = omega (arith, index, below, count) in
    let good = good_record list k.listed (key_index at) inside in
    record { inside = inside; few = most_bytes list k.listed; short = name_most (record_at list (key_index at)) good }

module _ (text list entry : List ℕ) where
  -- a refusal at a record is at that of a key
  listed : (n : ℕ) (i : Input) (at : ℕ) → judge_answer text list entry ≡ refused n i at → Listed list n at
  listed n i at judged told =
      let (twenty, after) = (and-eq-true_iff (eqb n 20) (leb head_size at)).0 told in
      let given : judge_answer text list entry ≡ refused 20 i at = judged ∙ ap (λ (m : ℕ). refused m i at) (eqb-true n 20 twenty) in
      go (leb-true head_size at after) (records_refused text list entry i at given).1
    where
      go : head_size ≤ at → (at ≡ 0) ⊎ KeyRecord list at → HasKey list (key_index at)
      go after (inl zeroth) = absurd (omega arith)
      go after (inr k) = has_key list at k

  pub record Stopped (n : ℕ) (i : Input) (at : ℕ) : Type 0 where
    pub listed : Listed list n at
    pub reason : reason_for list (refused n i at) ≡ explain_answer text list entry

  stopped : (n : ℕ) (i : Input) (at : ℕ) → StopsAt text list entry n i at → Stopped n i at
  stopped n i at stops =
      record {
        listed = listed n i at (judge_stops text list entry n i at stops);
        reason = sym (explain_stops text list entry n i at stops);
      }

  -- what is shown of a refusal
  abbrev pub ShownOf : Refusal → Type 0
  ShownOf v = Stopped v.number (input_of v.place) (offset_of v.place)

  pub text_refused : (v : Refusal) → restriction text list ≡ refused_by v → ShownOf v
  text_refused v e = stopped v.number (input_of v.place) (offset_of v.place) (λ A next. rw e)

  module _ (nodes rows : List ℕ) (m : ℕ) (p : PassedParts text list nodes rows m) where
    pub entry_refused : (x : Result (Unit {0}) Refusal) → says x ≡ conforms (keys_in list) entry → {v : Refusal} → x ≡ Err v → ShownOf v
    entry_refused x said {v} e =
        let stops = not_entered (keys_in list) entry (sym said ∙ ap says e) in
        stopped v.number (input_of v.place) (offset_of v.place) (λ A next. rw (p.rooted.passed, stops))

    pub explained : Conforming list entry → reason_for list (ok (first_in text list entry nodes rows m)) ≡ explain_answer text list entry
    unfolding explain_answer false_part
    explained c = rw (p.rooted.passed, c.entered, p.parted.are)
