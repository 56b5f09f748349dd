-- What a judgement depends on: the records of the keys that the text names and, where it names ::priority, the priority. A tree's value is
-- worked out from the matches of these keys alone, and a match from the 36 bytes of its record; and the steps that its code takes are
-- settled by the values of its operands.
use Prim.Native.Nat.{ℕ, zero, suc, ◌+◌, ◌*◌, ◌^◌}
use native.Mathlib.Nat.{add-zero}
use native.Mathlib.Omega.{arith}
use mathlib.Core.Path.{◌≡◌, refl, sym, ap, ap₂, ◌∙◌, fun_ext}
use mathlib.Core.Logic.Or
use mathlib.Core.Bool.{Bool, true, false, ◌&&◌, ◌||◌, or-eq-true_iff}
use mathlib.Core.Option.{Option, none, some, map}
use mathlib.Core.List.{List, [], ◌∷◌}
use lib.ListN.{length, get_elem?}
use lib.Dec.{eqb, ltb}
use lib.IntN.{pos}
use borrow.Author.Tests.{eq-eqb}
use Rattle.paper.specs.Answers.{ok, ◌>>=◌, require, in_turn, in_entry}
use Rattle.paper.specs.Tokens.{bytes, same_bytes}
use Rattle.paper.specs.Keys.{Key, find}
use Rattle.paper.specs.Entry.{Entry, head_size, match_size, match_at, match_of, matches_from, rule_test, priority_of, entry_of}
use Rattle.paper.specs.Grammar as G
use Rattle.paper.specs.Grammar.{Tree}
use Rattle.paper.specs.Types.{when, and_then, Field, field_named, keeps_bits}
use Rattle.paper.specs.Meaning.{Value, ty_of, value_of, bare_value, field_value, prefix_value, join_value, connective, comparison_value, is_true, whole}
use Rattle.paper.specs.Calls.{judge_answer}
use Rattle.paper.specs.Named.{is_it, names, marked}
use Rattle.paper.specs.Translating.{steps_of}
use Rattle.paper.specs.TranslationCorrect.{judged_in_steps}
use Rattle.paper.specs.RecheckedRight.{SameNamed, BothConform}
use Rattle.paper.proofs.Stages.{ok_same, bind_ok, require_ok}

-- two entries whose matches agree where a tree names the key, and whose priorities agree where it names that
pub record Agree (ks : List Key) (t : Tree) (e f : Entry) : Type 0 where
  pub there : (k : ℕ) → names ks t k ≡ true → get_elem? e.matches k ≡ get_elem? f.matches k
  pub rank : marked t ≡ true → e.priority ≡ f.priority

module _ (ks : List Key) (e f : Entry) where
  -- the leaves

  found_same : {A : Type 0} (o : Option ℕ) (g h : ℕ → Option A) → ((k : ℕ) → is_it k o ≡ true → g k ≡ h k) → and_then o g ≡ and_then o h
  found_same none g h same = refl
  found_same (some k) g h same = same k (eq-eqb k k refl)

  key_same : (k : ℕ) → get_elem? e.matches k ≡ get_elem? f.matches k → bare_value ks e k ≡ bare_value ks f k
  key_same k h = rw h

  field_same : (g : Field) (k : ℕ) → get_elem? e.matches k ≡ get_elem? f.matches k → field_value ks e g k ≡ field_value ks f g k
  field_same g k h = rw h

  rank_same : (b : Bool) → (b ≡ true → e.priority ≡ f.priority)
      → when b (whole (pos e.priority)) ≡ when b (whole (pos f.priority))
  rank_same true h = rw (h refl)
  rank_same false h = refl

  -- what agrees on a node of two operands agrees on each

  pub record Joins (l r t : Tree) : Type 0 where
    pub named : (k : ℕ) → names ks t k ≡ names ks l k || names ks r k
    pub mark : marked t ≡ marked l || marked r

  pub left_agree : (l r t : Tree) → Joins l r t → Agree ks t e f → Agree ks l e f
  left_agree l r t j h =
      record {
        there = λ k g. h.there k (j.named k ∙ (or-eq-true_iff (names ks l k) (names ks r k)).1 (Or.inl g));
        rank = λ g. h.rank (j.mark ∙ (or-eq-true_iff (marked l) (marked r)).1 (Or.inl g));
      }

  pub right_agree : (l r t : Tree) → Joins l r t → Agree ks t e f → Agree ks r e f
  right_agree l r t j h =
      record {
        there = λ k g. h.there k (j.named k ∙ (or-eq-true_iff (names ks l k) (names ks r k)).1 (Or.inr g));
        rank = λ g. h.rank (j.mark ∙ (or-eq-true_iff (marked l) (marked r)).1 (Or.inr g));
      }

  pub agree_value : (t : Tree) → Agree ks t e f → value_of ks e t ≡ value_of ks f t
  unfolding value_of names marked
  agree_value (G.truth at b) h = refl
  agree_value (G.number at n) h = refl
  agree_value (G.key at w) h = found_same (find ks w) (bare_value ks e) (bare_value ks f) (λ k i. key_same k (h.there k i))
  agree_value (G.field at w to g) h =
      found_same (find ks w) (λ k. and_then (field_named g) (λ x. field_value ks e x k)) (λ k. and_then (field_named g) (λ x. field_value ks f x k))
      (λ k i. ap (λ (o : Field → Option Value). and_then (field_named g) o) (fun_ext (λ x. field_same x k (h.there k i))))
  agree_value (G.attribute at to g) h = rank_same (same_bytes g (bytes "priority")) (λ _. h.rank refl)
  agree_value (G.prefixed at o t) h =
      ap (λ (v : Option Value). and_then v (prefix_value o)) (agree_value t (record { there = h.there; rank = h.rank }))
  agree_value (G.joined at o l r) h =
      let j : Joins l r (G.joined at o l r) = record { named = λ k. refl; mark = refl } in
      ap₂ (λ (v w : Option Value). and_then v (λ x. and_then w (join_value (connective o) x)))
      (agree_value l (left_agree l r (G.joined at o l r) j h)) (agree_value r (right_agree l r (G.joined at o l r) j h))
  agree_value (G.compared at c l r) h =
      let j : Joins l r (G.compared at c l r) = record { named = λ k. refl; mark = refl } in
      let keeps : Value → Value → Bool = λ x y. keeps_bits l (ty_of y) && keeps_bits r (ty_of x) in
      ap₂ (λ (v w : Option Value). and_then v (λ x. and_then w (λ y. and_then (comparison_value c x y) (when (keeps x y)))))
      (agree_value l (left_agree l r (G.compared at c l r) j h)) (agree_value r (right_agree l r (G.compared at c l r) j h))

  agree_steps : (t : Tree) → Agree ks t e f → steps_of ks e t ≡ steps_of ks f t
  unfolding steps_of names marked
  agree_steps (G.truth at b) h = refl
  agree_steps (G.number at n) h = refl
  agree_steps (G.key at w) h = refl
  agree_steps (G.field at w to g) h = refl
  agree_steps (G.attribute at to g) h = refl
  agree_steps (G.prefixed at o t) h = ap (λ (n : ℕ). n + 1) (agree_steps t (record { there = h.there; rank = h.rank }))
  agree_steps (G.joined at o l r) h =
      let j : Joins l r (G.joined at o l r) = record { named = λ k. refl; mark = refl } in
      let left = left_agree l r (G.joined at o l r) j h in
      let right = right_agree l r (G.joined at o l r) j h in
      rw (agree_steps l left, agree_value l left, agree_steps r right)
  agree_steps (G.compared at c l r) h =
      let j : Joins l r (G.compared at c l r) = record { named = λ k. refl; mark = refl } in
      let left = left_agree l r (G.compared at c l r) j h in
      let right = right_agree l r (G.compared at c l r) j h in
      rw (agree_steps l left, agree_steps r right)

-- a conforming entry reads as its bytes say

matches_at : (entry : List ℕ) (ks : List Key) (j k : ℕ)
    → get_elem? (matches_from entry j ks) k ≡ map (λ (x : Key). match_of x (match_at entry (j + k))) (get_elem? ks k)
matches_at entry [] j k = refl
matches_at entry (x ∷ ks) j zero = ap (λ (n : ℕ). some (match_of x (match_at entry n))) (sym (add-zero j))
matches_at entry (x ∷ ks) j (suc k) =
    let next : suc j + k ≡ j + suc k = omega arith in
    matches_at entry ks (suc j) k ∙ ap (λ (n : ℕ). map (λ (y : Key). match_of y (match_at entry n)) (get_elem? ks k)) next

pub record Read (ks : List Key) (entry : List ℕ) (e : Entry) : Type 0 where
  pub size : eqb (length entry) (head_size + match_size * length ks) ≡ true
  pub low : ltb (priority_of entry) (2 ^ 31) ≡ true
  pub rules : in_turn (rule_test ks entry) 0 (length ks) ≡ ok tt
  pub is : e ≡ record { priority = priority_of entry; matches = matches_from entry 0 ks }

pub entry_read : (ks : List Key) (entry : List ℕ) (e : Entry) → entry_of ks entry ≡ ok e → Read ks entry e
unfolding entry_of
entry_read ks entry e conforms =
    let sized = eqb (length entry) (head_size + match_size * length ks) in
    let below = ltb (priority_of entry) (2 ^ 31) in
    let tests = in_turn (rule_test ks entry) 0 (length ks) in
    let read : Entry = record { priority = priority_of entry; matches = matches_from entry 0 ks } in
    let high = require below 20 in_entry 0 in
    let (u, first, later) =
    bind_ok (require sized 19 in_entry (length entry)) (λ _. high >>= λ _. tests >>= λ _. ok read) e conforms
    in
    let (v, second, last) = bind_ok high (λ _. tests >>= λ _. ok read) e later in
    let (_, third, is) = bind_ok tests (λ _. ok read) e last in
    record {
      size = require_ok sized 19 in_entry (length entry) u first;
      low = require_ok below 20 in_entry 0 v second;
      rules = third;
      is = sym (ok_same read e is);
    }

module _ (ks : List Key) (entry : List ℕ) (e : Entry) (reads : entry_of ks entry ≡ ok e) where
  pub match_there : (k : ℕ) → get_elem? e.matches k ≡ map (λ (x : Key). match_of x (match_at entry k)) (get_elem? ks k)
  match_there k =
      ap (λ (x : Entry). get_elem? x.matches k) (entry_read ks entry e reads).is
      ∙ matches_at entry ks 0 k
      ∙ ap (λ (n : ℕ). map (λ (x : Key). match_of x (match_at entry n)) (get_elem? ks k)) (let z : 0 + k ≡ k = omega arith in z)

module _ (text list entry other : List ℕ) (both : BothConform text list entry other)
    (same : SameNamed both.rule.keys both.rule.root entry other) where
  abbrev ks : List Key
  ks = both.rule.keys

  same_there : (k : ℕ) → match_at entry k ≡ match_at other k → get_elem? both.was.matches k ≡ get_elem? both.is.matches k
  same_there k h =
      match_there ks entry both.was both.old_conforms k
      ∙ ap (λ (r : List ℕ). map (λ (x : Key). match_of x r) (get_elem? ks k)) h
      ∙ sym (match_there ks other both.is both.new_conforms k)

  rank_of : (s : List ℕ) (x : Entry) → entry_of ks s ≡ ok x → x.priority ≡ priority_of s
  rank_of s x reads = ap (λ (y : Entry). y.priority) (entry_read ks s x reads).is

  -- entries that are the same in the bytes agree in what is read from them
  pub same_agree : Agree ks both.rule.root both.was both.is
  same_agree =
      record {
        there = λ k n. same_there k (same.records k n);
        rank = λ m. rank_of entry both.was both.old_conforms ∙ same.priority m ∙ sym (rank_of other both.is both.new_conforms);
      }

  -- so the judge says the same, and the steps are as many
  pub same_judgement : judge_answer text list entry ≡ judge_answer text list other
  unfolding judge_answer
  same_judgement =
      rw (both.passes, both.old_conforms, both.new_conforms)
      (ap (λ (v : Option Value). ok (is_true v)) (agree_value ks both.was both.is both.rule.root same_agree))

  pub same_steps : judged_in_steps text list entry ≡ judged_in_steps text list other
  unfolding judged_in_steps
  same_steps =
      rw (both.passes, both.old_conforms, both.new_conforms)
      (ap₂ (λ (v : Option Value) (n : ℕ). ok (record { accepted = is_true v; steps = n }))
      (agree_value ks both.was both.is both.rule.root same_agree)
      (agree_steps ks both.was both.is both.rule.root same_agree))
