-- The wrong explainers are real: each differs from the explanation in one thing, which shows only where the entry is violated, or where the
-- priority is bad.
use Prim.Native.Nat.{ℕ, suc, ◌+◌}
use native.Mathlib.Omega.{arith}
use mathlib.Core.Path.{◌≡◌, refl, sym, ap, subst, ◌∙◌}
use mathlib.Core.Logic.{◌⊎◌, inl, inr}
use mathlib.Core.Bool.{Bool, true, false, cond}
use mathlib.Core.Option.{Option, none, some}
use mathlib.Core.List.{List, [], ◌∷◌, ◌++◌}
use lib.ListN.{length}
use lib.Dec.{eqb, leb}
use borrow.Author.Tests.{eqb-true, le-leb}
use Rattle.paper.specs.Answers.{Input, in_entry, Answer, ok, refused, ◌>>=◌}
use Rattle.paper.specs.Tokens.{sequel, implies, or_else, and_also}
use Rattle.paper.specs.Keys.{Key}
use Rattle.paper.specs.Entry.{Entry, head_size, entry_of}
use Rattle.paper.specs.Grammar.{Tree, truth, number, key, field, attribute, prefixed, joined, compared, place_of}
use Rattle.paper.specs.Meaning.{value_of, is_true}
use Rattle.paper.specs.Calls.{tree, Restriction, restriction, judge_answer}
use Rattle.paper.specs.BlocksRoundTrip.{All}
use Rattle.paper.specs.Parts.{Stretch, Part, parts}
use Rattle.paper.specs.Explained.{in_part, at_key, nothing_to_show, holds_on, first_false, false_part, is_record, key_index, name_stretch, reason_for, explain_answer}
use Rattle.paper.specs.PartsDecide.{JoinedLeft, alone, then}
use Rattle.paper.specs.ExplainedRight.{Explains, shows_nothing, accepted}
use Rattle.tried.specs.WrongExplainers.{Explainer, RightBut, ViolatedEntry, NamesLast, spine, FollowsSpine, reason_with, explain_with, last_false, counted_trees, spine_parts, any_twenty, WrongExplainersExist}
use Rattle.paper.proofs.Stages.{never_ok, ok_same}
use Rattle.paper.proofs.TranslationCorrect.{passing}
use Rattle.paper.proofs.PartsCut.{text_is_its_parts}
use Rattle.paper.proofs.PartsDecide.{Holds, joined_holds, parts_decide}
use Rattle.paper.proofs.RecordsRefused.{KeyRecord, records_refused}
use Rattle.paper.proofs.ExplainedRight.{Hold, hold_none, StopsAt, Entered, passes, refuses, entered, judge_stops, explain_stops, judge_passes, is_right}

-- any explainer of this sort, after the stages that it has in common with the judgement

module _ (cut : List ℕ → Answer (List Part)) (choose : (Part → Bool) → List Part → Option Part) (atRecord : ℕ → ℕ → Bool)
    (text list entry : List ℕ) where
  with_passes : (r : Restriction) (on : Entry) (ps : List Part) → restriction text list ≡ ok r → entry_of r.keys entry ≡ ok on
      → cut text ≡ ok ps
      → explain_with cut choose atRecord text list entry ≡ reason_with atRecord list (ok (choose (holds_on r.keys on) ps))
  with_passes r on ps passed e have = rw (passed, e, have)

  with_stops : (n : ℕ) (i : Input) (at : ℕ) → StopsAt text list entry n i at
      → explain_with cut choose atRecord text list entry ≡ reason_with atRecord list (refused n i at)
  with_stops n i at stops =
      ap (reason_with atRecord list) (stops (Option Part) (λ r e. cut text >>= λ ps. ok (choose (holds_on r.keys e) ps)))

same_reason : (list : List ℕ) (x : Answer (Option Part)) → reason_with is_record list x ≡ reason_for list x
same_reason list (ok none) = refl
same_reason list (ok (some p)) = refl
same_reason list (refused n i at) = refl

otherwise_same : (text list entry : List ℕ) → explain_with parts first_false is_record text list entry ≡ explain_answer text list entry
unfolding explain_answer false_part
otherwise_same text list entry = same_reason list (false_part text list entry)

-- with other parts, or another choice of them, which chooses none where the text holds: right unless the entry is violated
module _ (cut : List ℕ → Answer (List Part)) (choose : (Part → Bool) → List Part → Option Part) where
  record ChoosesNone (text : List ℕ) (t : Tree) : Type 0 where
    ps : List Part
    have : cut text ≡ ok ps
    none_chosen : (ks : List Key) (e : Entry) → is_true (value_of ks e t) ≡ true → choose (holds_on ks e) ps ≡ none

  abbrev wrong : Explainer
  wrong = explain_with cut choose is_record

  module _ (chooses : (text : List ℕ) (t : Tree) → tree text ≡ ok t → ChoosesNone text t) (text list entry : List ℕ)
      (unless : ¬ (judge_answer text list entry ≡ ok false)) where
    stopped_right : (n : ℕ) (i : Input) (at : ℕ) → StopsAt text list entry n i at → Explains text list entry (wrong text list entry)
    stopped_right n i at stops =
        let same = with_stops cut choose is_record text list entry n i at stops ∙ same_reason list (refused n i at) in
        subst (Explains text list entry) (explain_stops text list entry n i at stops ∙ sym same) (is_right text list entry)

    holding_right : (r : Restriction) (on : Entry) → restriction text list ≡ ok r → entry_of r.keys entry ≡ ok on → (b : Bool)
        → is_true (value_of r.keys on r.root) ≡ b → Explains text list entry (wrong text list entry)
    holding_right r on passed e false fails = absurd (unless (judge_passes text list entry r on passed e ∙ ap ok fails))
    holding_right r on passed e true holds =
        let c = chooses text r.root (passing text list r passed).read in
        let shown = with_passes cut choose is_record text list entry r on c.ps passed e c.have in
        let nothing = ap (λ (o : Option Part). reason_with is_record list (ok o)) (c.none_chosen r.keys on holds) in
        subst (Explains text list entry) (sym (shown ∙ nothing))
        (shows_nothing (ok true) (judge_passes text list entry r on passed e ∙ ap ok holds) accepted)

    right_by : Entered text list entry → Explains text list entry (wrong text list entry)
    right_by (passes r on passed e) = holding_right r on passed e (is_true (value_of r.keys on r.root)) refl
    right_by (refuses n i at stops) = stopped_right n i at stops

  right_elsewhere : ((text : List ℕ) (t : Tree) → tree text ≡ ok t → ChoosesNone text t) → RightBut (ok false) wrong
  right_elsewhere chooses text list entry _ unless = right_by chooses text list entry unless (entered text list entry)

-- a violated entry passes those stages, with its own keys and matches
module _ (text list entry : List ℕ) (v : ViolatedEntry text list entry) where
  record Stands : Type 0 where
    r : Restriction
    passed : restriction text list ≡ ok r
    same_keys : r.keys ≡ v.ks
    conforms : entry_of r.keys entry ≡ ok v.on

  stands_by : Entered text list entry → Stands
  stands_by (passes r on passed e) =
      let same = ok_same r.keys v.ks (sym (passing text list r passed).listed ∙ v.listed) in
      record { r = r; passed = passed; same_keys = same; conforms = ap (λ (ks : List Key). entry_of ks entry) same ∙ v.conforms }
  stands_by (refuses n i at stops) = absurd (never_ok (sym (judge_stops text list entry n i at stops) ∙ v.judged))

  stands : Stands
  stands = stands_by (entered text list entry)

  -- so the part chosen by its keys and matches is named
  chosen_named : (cut : List ℕ → Answer (List Part)) (choose : (Part → Bool) → List Part → Option Part) (ps : List Part) (p : Part)
      → cut text ≡ ok ps → choose (holds_on v.ks v.on) ps ≡ some p
      → explain_with cut choose is_record text list entry ≡ in_part p.number (place_of p.root) p.stretch
  chosen_named cut choose ps p have chosen =
      let s = stands in
      with_passes cut choose is_record text list entry s.r v.on ps s.passed s.conforms have
      ∙ ap (λ (ks : List Key). reason_with is_record list (ok (choose (holds_on ks v.on) ps))) s.same_keys
      ∙ ap (λ (o : Option Part). reason_with is_record list (ok o)) chosen

-- the last false part

module _ (holds : Part → Bool) where
  last_none : (ps : List Part) → Hold holds ps → last_false holds ps ≡ none
  last_none [] h = refl
  last_none (p ∷ ps) h = rw (last_none ps h.1, h.0)

  last_found : (before after : List Part) (p : Part) → holds p ≡ false → Hold holds after → last_false holds (before ++ (p ∷ after)) ≡ some p
  last_found [] after p fails held = rw (last_none after held, fails)
  last_found (q ∷ before) after p fails held = rw (last_found before after p fails held)

last_names : NamesLast (explain_with parts last_false is_record)
last_names text list entry v before after p split fails held =
    let chosen = last_found (holds_on v.ks v.on) before after p fails held in
    (place_of p.root, p.stretch, chosen_named text list entry v parts last_false (before ++ (p ∷ after)) p split chosen)

last_chooses : (text : List ℕ) (t : Tree) → tree text ≡ ok t → ChoosesNone parts last_false text t
last_chooses text t read =
    let (ps, have, joins) = text_is_its_parts text t read in
    record {
      ps = ps;
      have = have;
      none_chosen = λ ks e holds. last_none (holds_on ks e) ps ((parts_decide text t ps read have ks e).0 holds);
    }

-- the left spine

spine_joined : (t : Tree) → JoinedLeft (spine t) t
spine_joined (truth at b) = alone (truth at b)
spine_joined (number at n) = alone (number at n)
spine_joined (key at w) = alone (key at w)
spine_joined (field at w to f) = alone (field at w to f)
spine_joined (attribute at to f) = alone (attribute at to f)
spine_joined (prefixed at o t) = alone (prefixed at o t)
spine_joined (joined at sequel l r) = then (spine_joined l) at r
spine_joined (joined at implies l r) = alone (joined at implies l r)
spine_joined (joined at or_else l r) = alone (joined at or_else l r)
spine_joined (joined at and_also l r) = alone (joined at and_also l r)
spine_joined (compared at c l r) = alone (compared at c l r)

module _ (ks : List Key) (e : Entry) where
  counted_hold : (n : ℕ) (ts : List Tree) → All (Holds ks e) ts → Hold (holds_on ks e) (counted_trees n ts)
  counted_hold n [] h = tt
  counted_hold n (t ∷ ts) h = (h.0, counted_hold (suc n) ts h.1)

  counted_found : (n : ℕ) (before after : List Tree) (t : Tree) → All (Holds ks e) before → is_true (value_of ks e t) ≡ false
      → (p : Part) × (first_false (holds_on ks e) (counted_trees n (before ++ (t ∷ after))) ≡ some p) × (p.number ≡ n + length before)
  counted_found n [] after t h fails =
      let p : Part = record { number = n; root = t; stretch = record { from = place_of t; to = suc (place_of t) } } in
      (p, rw fails, omega arith)
  counted_found n (u ∷ before) after t h fails =
      let (p, found, count) = counted_found (suc n) before after t h.1 fails in
      (p, rw h.0 found, omega (arith, count))

spine_cut : (text : List ℕ) (t : Tree) → tree text ≡ ok t → spine_parts text ≡ ok (counted_trees 1 (spine t))
spine_cut text t read = rw read

spine_follows : FollowsSpine (explain_with spine_parts first_false is_record)
spine_follows text list entry v before after t split held fails =
    let (p, found, counted) = counted_found v.ks v.on 1 before after t held fails in
    let cut = spine_cut text v.root v.read ∙ ap (λ (ts : List Tree). ok (counted_trees 1 ts)) split in
    let named = chosen_named text list entry v spine_parts first_false (counted_trees 1 (before ++ (t ∷ after))) p cut found in
    let count : p.number ≡ suc (length before) = omega (arith, counted) in
    (place_of p.root, p.stretch, named ∙ ap (λ (n : ℕ). in_part n (place_of p.root) p.stretch) count)

spine_chooses : (text : List ℕ) (t : Tree) → tree text ≡ ok t → ChoosesNone spine_parts first_false text t
spine_chooses text t read =
    record {
      ps = counted_trees 1 (spine t);
      have = spine_cut text t read;
      none_chosen = λ ks e holds.
          hold_none (holds_on ks e) (counted_trees 1 (spine t)) (counted_hold ks e 1 (spine t) ((joined_holds ks e (spine_joined t)).0 holds));
    }

-- a key for a bad priority

abbrev for_priority : Explainer
for_priority = explain_with parts first_false any_twenty

module _ (text list entry : List ℕ) where
  abbrev KeyShown : Type 0
  KeyShown = (place k : ℕ) × (s : Stretch) × (for_priority text list entry ≡ at_key place k s)

  priority_key : judge_answer text list entry ≡ refused 20 in_entry 0 → Entered text list entry → KeyShown
  priority_key judged (passes r on passed e) = absurd (never_ok (sym judged ∙ judge_passes text list entry r on passed e))
  priority_key judged (refuses n i at stops) =
      let twenty : n ≡ 20 = cc (sym (judge_stops text list entry n i at stops) ∙ judged) in
      let shown : reason_with any_twenty list (refused n i at) ≡ at_key at (key_index at) (name_stretch list (key_index at)) = rw twenty in
      (at, key_index at, name_stretch list (key_index at), with_stops parts first_false any_twenty text list entry n i at stops ∙ shown)

  -- elsewhere its test is the right one
  same_test : (n : ℕ) (i : Input) (at : ℕ) → judge_answer text list entry ≡ refused n i at
      → ¬ (judge_answer text list entry ≡ refused 20 in_entry 0) → (b : Bool) → eqb n 20 ≡ b → any_twenty n at ≡ is_record n at
  same_test n i at judged unless false e = rw e
  same_test n i at judged unless true e =
      let given : judge_answer text list entry ≡ refused 20 i at = judged ∙ ap (λ (m : ℕ). refused m i at) (eqb-true n 20 e) in
      let (input, place) = records_refused text list entry i at given in
      rw e (go (given ∙ ap (λ (j : Input). refused 20 j at) input) place)
    where
      go : judge_answer text list entry ≡ refused 20 in_entry at → (at ≡ 0) ⊎ KeyRecord list at → true ≡ leb head_size at
      go given (inl zeroth) = absurd (unless (given ∙ ap (refused 20 in_entry) zeroth))
      go given (inr k) = sym (le-leb head_size at (omega (arith, k.place)))

  same_choice : (o : Option Part) → reason_with is_record list (ok o) ≡ reason_with any_twenty list (ok o)
  same_choice none = refl
  same_choice (some p) = refl

  elsewhere_right : ¬ (judge_answer text list entry ≡ refused 20 in_entry 0) → Entered text list entry
      → Explains text list entry (for_priority text list entry)
  elsewhere_right unless (passes r on passed e) =
      let (ps, have, joins) = text_is_its_parts text r.root (passing text list r passed).read in
      let right = with_passes parts first_false is_record text list entry r on ps passed e have in
      let any = with_passes parts first_false any_twenty text list entry r on ps passed e have in
      let same = same_choice (first_false (holds_on r.keys on) ps) in
      subst (Explains text list entry) (sym (otherwise_same text list entry) ∙ right ∙ same ∙ sym any) (is_right text list entry)
  elsewhere_right unless (refuses n i at stops) =
      let test = same_test n i at (judge_stops text list entry n i at stops) unless (eqb n 20) refl in
      let named = at_key at (key_index at) (name_stretch list (key_index at)) in
      let same = ap (λ (b : Bool). cond b named (nothing_to_show (refused n i at))) (sym test) in
      let any = with_stops parts first_false any_twenty text list entry n i at stops in
      subst (Explains text list entry) (explain_stops text list entry n i at stops ∙ same ∙ sym any) (is_right text list entry)

pub wrong_explainers_exist : WrongExplainersExist
wrong_explainers_exist =
    record {
      otherwise_same = otherwise_same;
      last_part = (explain_with parts last_false is_record, last_names, right_elsewhere parts last_false last_chooses);
      left_spine = (explain_with spine_parts first_false is_record, spine_follows, right_elsewhere spine_parts first_false spine_chooses);
      key_for_priority = (
        for_priority,
        λ text list entry _ judged. priority_key text list entry judged (entered text list entry),
        λ text list entry _ unless. elsewhere_right text list entry unless (entered text list entry),
      );
    }
