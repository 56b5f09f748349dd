-- The explanation is what 02 asks for: the walk of the parts comes as far as the judgement does; where both pass, it stops at a part
-- exactly where the entry is violated, since the text holds exactly where each part does; and 20 stands at a record exactly where it does
-- not stand at the priority.
use Prim.Native.Nat.{ℕ, suc, ◌+◌, ◌≤◌}
use native.Mathlib.Omega.{arith}
use mathlib.Core.Path.{◌≡◌, refl, sym, ap, ap₂, subst, ◌∙◌}
use mathlib.Core.Logic.{◌↔◌, ◌⊎◌, inl, inr}
use mathlib.Core.Bool.{Bool, true, false, cond, true≢false, and-eq-true_iff}
use mathlib.Core.Option.{Option, none, some, none-ne-some}
use mathlib.Core.List.{List, [], ◌∷◌, ◌++◌}
use lib.ListN.{length, get_elem?}
use lib.Dec.{eqb, leb}
use borrow.Author.Tests.{eqb-true, eq-eqb, leb-true, le-leb}
use Rattle.paper.specs.Answers.{Input, in_entry, Answer, ok, refused, ◌>>=◌}
use Rattle.paper.specs.Tokens.{Token}
use Rattle.paper.specs.Keys.{Key, keys}
use Rattle.paper.specs.Entry.{Entry, head_size, entry_of}
use Rattle.paper.specs.Grammar.{Tree, place_of}
use Rattle.paper.specs.Meaning.{value_of, is_true}
use Rattle.paper.specs.Calls.{tree, Restriction, restriction, judge_answer}
use Rattle.paper.specs.BlocksRoundTrip.{All}
use Rattle.paper.specs.Parts.{Stretch, Part, parts}
use Rattle.paper.specs.Explained.{Reason, in_part, at_key, nothing_to_show, holds_on, first_false, false_part, is_record, key_index, name_stretch, reason_for, explain_answer}
use Rattle.paper.specs.PartsDecide.{PartIn}
use Rattle.paper.specs.ExplainedRight.{FirstFalse, record_place, NothingToShow, accepted, other_refusal, Explains, names_part, names_key, shows_nothing, ExplainedIsRight, judgement_of, ExplainedAsJudged, PieceOfText, PieceOfList, PiecesInInputs}
use Rattle.paper.proofs.Basics.{all_parts}
use Rattle.paper.proofs.Stages.{never_ok, ok_same}
use Rattle.paper.proofs.TranslationCorrect.{passing}
use Rattle.paper.proofs.PartsCut.{Made, a_part, parts_made, text_is_its_parts}
use Rattle.paper.proofs.PartsDecide.{parts_decide}
use Rattle.paper.proofs.PartsInText.{parts_in_text}
use Rattle.paper.proofs.RecordsRefused.{KeyRecord, records_refused}
use Rattle.paper.proofs.NamesInList.{name_in_list}

-- the first false of some parts

module _ (holds : Part → Bool) where
  abbrev pub Hold : List Part → Type 0
  Hold ps = All (λ p. holds p ≡ true) ps

  pub record Split (ps : List Part) (p : Part) : Type 0 where
    pub before : List Part
    pub after : List Part
    pub are : ps ≡ before ++ (p ∷ after)
    pub held : Hold before
    pub fails : holds p ≡ false

  -- it splits them
  found_splits : (ps : List Part) (p : Part) → first_false holds ps ≡ some p → Split ps p
  found_splits [] p e = absurd (none-ne-some p e)
  found_splits (q ∷ ps) p e = go (holds q) refl e (found_splits ps p)
    where
      go : (b : Bool) → holds q ≡ b → cond b (first_false holds ps) (some q) ≡ some p → (first_false holds ps ≡ some p → Split ps p)
          → Split (q ∷ ps) p
      go true h e later =
          let s = later e in
          record { before = q ∷ s.before; after = s.after; are = ap (λ (x : List Part). q ∷ x) s.are; held = (h, s.held); fails = s.fails }
      go false h e later =
          let same : q ≡ p = cc e in
          record {
            before = [];
            after = ps;
            are = ap (λ (x : Part). x ∷ ps) same;
            held = tt;
            fails = subst (λ (x : Part). holds x ≡ false) same h;
          }

  -- and whatever splits them is it
  split_found : (before after : List Part) (p : Part) → Hold before → holds p ≡ false → first_false holds (before ++ (p ∷ after)) ≡ some p
  split_found [] after p h fails = rw fails
  split_found (q ∷ before) after p h fails = rw h.0 (split_found before after p h.1 fails)

  none_hold : (ps : List Part) → first_false holds ps ≡ none → Hold ps
  none_hold [] e = tt
  none_hold (p ∷ ps) e = go (holds p) refl e (none_hold ps)
    where
      go : (b : Bool) → holds p ≡ b → cond b (first_false holds ps) (some p) ≡ none → (first_false holds ps ≡ none → Hold ps)
          → (holds p ≡ true) × Hold ps
      go true h e later = (h, later e)
      go false h e later = absurd (none-ne-some p (sym e))

  pub hold_none : (ps : List Part) → Hold ps → first_false holds ps ≡ none
  hold_none [] h = refl
  hold_none (p ∷ ps) h = rw h.0 (hold_none ps h.1)

-- "its number from 1": it counts the parts before it

made_number : {text : List ℕ} {n : ℕ} {ps : List (List Token)} (before after : List Part) (p : Part) → Made text n ps (before ++ (p ∷ after))
    → p.number ≡ n + length before
made_number [] after p (a_part q t read more) = omega arith
made_number (b ∷ before) after p (a_part q t read more) = omega (arith, made_number before after p more)

part_number : (text : List ℕ) (before after : List Part) (p : Part) → parts text ≡ ok (before ++ (p ∷ after)) → p.number ≡ suc (length before)
part_number text before after p h =
    let (ts, cut, made) = parts_made text (before ++ (p ∷ after)) h in
    omega (arith, made_number before after p made)

module _ (text list entry : List ℕ) where
  -- how far the stages come that judgement and walk have in common: through all of them, or to a refusal, whatever is to follow

  abbrev pub StopsAt : ℕ → Input → ℕ → Type 1
  StopsAt n i at =
      (A : Type 0) (next : Restriction → Entry → Answer A)
      → (restriction text list >>= λ r. entry_of r.keys entry >>= next r) ≡ refused n i at

  pub data Entered : Type 1 where
    passes : (r : Restriction) (on : Entry) → restriction text list ≡ ok r → entry_of r.keys entry ≡ ok on → Entered
    refuses : (n : ℕ) (i : Input) (at : ℕ) → StopsAt n i at → Entered

  by_entry : (r : Restriction) → restriction text list ≡ ok r → (x : Answer Entry) → entry_of r.keys entry ≡ x → Entered
  by_entry r passed (ok on) e = passes r on passed e
  by_entry r passed (refused n i at) e = refuses n i at (λ A next. rw (passed, e))

  by_text : (x : Answer Restriction) → restriction text list ≡ x → Entered
  by_text (ok r) e = by_entry r e (entry_of r.keys entry) refl
  by_text (refused n i at) e = refuses n i at (λ A next. rw e)

  pub entered : Entered
  entered = by_text (restriction text list) refl

  -- after them, judgement and walk

  pub judge_stops : (n : ℕ) (i : Input) (at : ℕ) → StopsAt n i at → judge_answer text list entry ≡ refused n i at
  unfolding judge_answer
  judge_stops n i at stops = stops Bool (λ r e. ok (is_true (value_of r.keys e r.root)))

  pub explain_stops : (n : ℕ) (i : Input) (at : ℕ) → StopsAt n i at → explain_answer text list entry ≡ reason_for list (refused n i at)
  unfolding explain_answer false_part
  explain_stops n i at stops =
      ap (reason_for list) (stops (Option Part) (λ r e. parts text >>= λ ps. ok (first_false (holds_on r.keys e) ps)))

  pub judge_passes : (r : Restriction) (on : Entry) → restriction text list ≡ ok r → entry_of r.keys entry ≡ ok on
      → judge_answer text list entry ≡ ok (is_true (value_of r.keys on r.root))
  unfolding judge_answer
  judge_passes r on passed e = rw (passed, e)

  record Passed : Type 0 where
    ks : List Key
    listed : keys list ≡ ok ks
    on : Entry
    conforms : entry_of ks entry ≡ ok on
    root : Tree
    read : tree text ≡ ok root
    ps : List Part
    have : parts text ≡ ok ps
    judged : judge_answer text list entry ≡ ok (is_true (value_of ks on root))
    walked : explain_answer text list entry ≡ reason_for list (ok (first_false (holds_on ks on) ps))

  passed_on : (r : Restriction) (on : Entry) → restriction text list ≡ ok r → entry_of r.keys entry ≡ ok on → Passed
  unfolding explain_answer false_part
  passed_on r on passed e =
      let known = passing text list r passed in
      let (ps, have, joins) = text_is_its_parts text r.root known.read in
      record {
        ks = r.keys;
        listed = known.listed;
        on = on;
        conforms = e;
        root = r.root;
        read = known.read;
        ps = ps;
        have = have;
        judged = judge_passes r on passed e;
        walked = rw (passed, e, have);
      }

  -- all stages pass: the text holds exactly where no part is false

  module _ (p : Passed) where
    abbrev holds : Part → Bool
    holds = holds_on p.ks p.on

    shows : (o : Option Part) → first_false holds p.ps ≡ o → explain_answer text list entry ≡ reason_for list (ok o)
    shows o e = p.walked ∙ ap (λ (x : Option Part). reason_for list (ok x)) e

    decided : (is_true (value_of p.ks p.on p.root) ≡ true) ↔ Hold holds p.ps
    decided = parts_decide text p.root p.ps p.read p.have p.ks p.on

    none_false : first_false holds p.ps ≡ none → judge_answer text list entry ≡ ok true
    none_false e = p.judged ∙ ap ok (decided.1 (none_hold holds p.ps e))

    one_false : (q : Part) → Split holds p.ps q → judge_answer text list entry ≡ ok false
    one_false q s = p.judged ∙ ap ok (go (is_true (value_of p.ks p.on p.root)) refl)
      where
        go : (b : Bool) → is_true (value_of p.ks p.on p.root) ≡ b → b ≡ false
        go false e = refl
        go true e =
            let each = subst (Hold holds) s.are (decided.0 e) in
            let (before, rest) = all_parts (λ x. holds x ≡ true) s.before (q ∷ s.after) each in
            absurd (true≢false (sym rest.0 ∙ s.fails))

    part_right : (q : Part) → first_false holds p.ps ≡ some q → Explains text list entry (explain_answer text list entry)
    part_right q e =
        let s = found_splits holds p.ps q e in
        let split : parts text ≡ ok (s.before ++ (q ∷ s.after)) = p.have ∙ ap ok s.are in
        let number = part_number text s.before s.after q split in
        subst (Explains text list entry)
        (sym (shows (some q) e ∙ ap (λ (n : ℕ). in_part n (place_of q.root) q.stretch) number))
        (names_part (one_false q s)
        (record {
          ks = p.ks;
          listed = p.listed;
          on = p.on;
          conforms = p.conforms;
          before = s.before;
          part = q;
          after = s.after;
          split = split;
          held = s.held;
          fails = s.fails;
        }))

    passed_right : (o : Option Part) → first_false holds p.ps ≡ o → Explains text list entry (explain_answer text list entry)
    passed_right none e =
        subst (Explains text list entry) (sym (shows none e)) (shows_nothing (ok true) (none_false e) accepted)
    passed_right (some q) e = part_right q e

  -- a refusal: the key is named exactly where it is 20 at a record

  at_record : (k at : ℕ) → at ≡ record_place k
      → at_key at (key_index at) (name_stretch list (key_index at)) ≡ at_key (record_place k) k (name_stretch list k)
  at_record k at place =
      let index : key_index at ≡ k = omega (arith, place) in
      ap₂ (λ (x j : ℕ). at_key x j (name_stretch list j)) place index

  module _ (n : ℕ) (i : Input) (at : ℕ) (judged : judge_answer text list entry ≡ refused n i at) where
    -- where 20 stands, if not at the priority
    record_named : is_record n at ≡ true → (k : ℕ) × (at ≡ record_place k) × (judge_answer text list entry ≡ refused 20 in_entry (record_place k))
    record_named e =
        let (twenty, after) = (and-eq-true_iff (eqb n 20) (leb head_size at)).0 e in
        let number = eqb-true n 20 twenty in
        let given : judge_answer text list entry ≡ refused 20 i at = judged ∙ ap (λ (m : ℕ). refused m i at) number in
        let (input, place) = records_refused text list entry i at given in
        go (leb-true head_size at after) (given ∙ ap (λ (j : Input). refused 20 j at) input) place
      where
        go : head_size ≤ at → judge_answer text list entry ≡ refused 20 in_entry at → (at ≡ 0) ⊎ KeyRecord list at
            → (k : ℕ) × (at ≡ record_place k) × (judge_answer text list entry ≡ refused 20 in_entry (record_place k))
        go after given (inl zeroth) = absurd (omega arith)
        go after given (inr k) = (k.index, k.place, given ∙ ap (refused 20 in_entry) k.place)

    no_record : is_record n at ≡ false → NothingToShow (refused n i at)
    no_record e =
        other_refusal n i at
        (λ k number place.
        let after : leb head_size at ≡ true = le-leb head_size at (omega (arith, place)) in
        true≢false (sym ((and-eq-true_iff (eqb n 20) (leb head_size at)).1 (eq-eqb n 20 number, after)) ∙ e))

    refused_right : explain_answer text list entry ≡ reason_for list (refused n i at) → (b : Bool) → is_record n at ≡ b
        → Explains text list entry (explain_answer text list entry)
    refused_right shows true e =
        let (k, place, given) = record_named e in
        let named : reason_for list (refused n i at) ≡ at_key at (key_index at) (name_stretch list (key_index at)) = rw e in
        subst (Explains text list entry) (sym (shows ∙ named ∙ at_record k at place)) (names_key k given)
    refused_right shows false e =
        let nothing : reason_for list (refused n i at) ≡ nothing_to_show (refused n i at) = rw e in
        subst (Explains text list entry) (sym (shows ∙ nothing)) (shows_nothing (refused n i at) judged (no_record e))

  right_by : Entered → Explains text list entry (explain_answer text list entry)
  right_by (passes r on passed e) =
      let p = passed_on r on passed e in
      passed_right p (first_false (holds p) p.ps) refl
  right_by (refuses n i at stops) =
      refused_right n i at (judge_stops n i at stops) (explain_stops n i at stops) (is_record n at) refl

  pub is_right : Explains text list entry (explain_answer text list entry)
  is_right = right_by entered

  -- and there is no other

  same_part : (f g : FirstFalse text list entry) → f.part ≡ g.part
  same_part f g =
      let ks : f.ks ≡ g.ks = ok_same f.ks g.ks (sym f.listed ∙ g.listed) in
      let on : f.on ≡ g.on = ok_same f.on g.on (sym f.conforms ∙ ap (λ (x : List Key). entry_of x entry) ks ∙ g.conforms) in
      let ps = ok_same (f.before ++ (f.part ∷ f.after)) (g.before ++ (g.part ∷ g.after)) (sym f.split ∙ g.split) in
      let one = split_found (holds_on f.ks f.on) f.before f.after f.part f.held f.fails in
      let other = split_found (holds_on g.ks g.on) g.before g.after g.part g.held g.fails in
      let same : some f.part ≡ some g.part =
      sym one ∙ ap₂ (λ (h : Part → Bool) (x : List Part). first_false h x) (ap₂ holds_on ks on) ps ∙ other
      in
      cc same

  shown_by_part : (f : FirstFalse text list entry) → in_part (suc (length f.before)) (place_of f.part.root) f.part.stretch
      ≡ in_part f.part.number (place_of f.part.root) f.part.stretch
  shown_by_part f =
      ap (λ (n : ℕ). in_part n (place_of f.part.root) f.part.stretch) (sym (part_number text f.before f.after f.part f.split))

  not_violated : (a : Answer Bool) → judge_answer text list entry ≡ ok false → judge_answer text list entry ≡ a → ¬ NothingToShow a
  not_violated a j h accepted = true≢false (ok_same true false (sym h ∙ j))
  not_violated a j h (other_refusal n i at none_there) = never_ok (sym h ∙ j)

  not_at_record : (a : Answer Bool) (k : ℕ) → judge_answer text list entry ≡ refused 20 in_entry (record_place k)
      → judge_answer text list entry ≡ a → ¬ NothingToShow a
  not_at_record a k j h accepted = never_ok (sym j ∙ h)
  not_at_record a k j h (other_refusal n i at none_there) =
      let number : n ≡ 20 = cc (sym h ∙ j) in
      let place : at ≡ record_place k = cc (sym h ∙ j) in
      none_there k number place

  one_explanation : (r q : Reason) → Explains text list entry r → Explains text list entry q → r ≡ q
  one_explanation r q (names_part j f) (names_part h g) =
      shown_by_part f ∙ ap (λ (p : Part). in_part p.number (place_of p.root) p.stretch) (same_part f g) ∙ sym (shown_by_part g)
  one_explanation r q (names_part j f) (names_key k h) = absurd (never_ok (sym h ∙ j))
  one_explanation r q (names_part j f) (shows_nothing a h other) = absurd (not_violated a j h other)
  one_explanation r q (names_key k h) (names_part j f) = absurd (never_ok (sym h ∙ j))
  one_explanation r q (names_key k h) (names_key l g) =
      let same : record_place k ≡ record_place l = cc (sym h ∙ g) in
      let index : k ≡ l = omega (arith, same) in
      ap (λ (m : ℕ). at_key (record_place m) m (name_stretch list m)) index
  one_explanation r q (names_key k h) (shows_nothing a j other) = absurd (not_at_record a k h j other)
  one_explanation r q (shows_nothing a h other) (names_part j f) = absurd (not_violated a j h other)
  one_explanation r q (shows_nothing a j other) (names_key k h) = absurd (not_at_record a k h j other)
  one_explanation r q (shows_nothing a j other) (shows_nothing b h another) = ap nothing_to_show (sym j ∙ h)

  -- what can be read off it

  as_judged : (r : Reason) → Explains text list entry r → judgement_of r ≡ judge_answer text list entry
  as_judged r (names_part j f) = sym j
  as_judged r (names_key k j) = sym j
  as_judged r (shows_nothing a j other) = sym j

  part_piece : (n at : ℕ) (s : Stretch) → Explains text list entry (in_part n at s) → PieceOfText text at s
  part_piece n at s (names_part j f) =
      let all = parts_in_text text (f.before ++ (f.part ∷ f.after)) f.split in
      let part = (all_parts (PartIn text) f.before (f.part ∷ f.after) all).1.0 in
      record { stretch = part.stretch; from = part.from; to = part.to }

  key_piece : (at k : ℕ) (s : Stretch) → Explains text list entry (at_key at k s) → PieceOfList list k s
  key_piece at k s (names_key l j) = go (records_refused text list entry in_entry (record_place k) j).1
    where
      go : (record_place k ≡ 0) ⊎ KeyRecord list (record_place k) → PieceOfList list k (name_stretch list k)
      go (inl zeroth) = absurd (omega arith)
      go (inr x) =
          let index : x.index ≡ k = omega (arith, x.place) in
          name_in_list list x.ks k x.key x.listed (subst (λ (m : ℕ). get_elem? x.ks m ≡ some x.key) index x.there)

pub explained_is_right : ExplainedIsRight
explained_is_right text list entry r = (
  λ e. subst (Explains text list entry) e (is_right text list entry),
  λ h. one_explanation text list entry (explain_answer text list entry) r (is_right text list entry) h,
)

pub explained_as_judged : ExplainedAsJudged
explained_as_judged text list entry = as_judged text list entry (explain_answer text list entry) (is_right text list entry)

pub pieces_in_inputs : PiecesInInputs
pieces_in_inputs =
    record {
      of_part = λ text list entry n at s e. part_piece text list entry n at s ((explained_is_right text list entry (in_part n at s)).0 e);
      of_key = λ text list entry at k s e. key_piece text list entry at k s ((explained_is_right text list entry (at_key at k s)).0 e);
    }
