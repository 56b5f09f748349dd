-- A summary has the bits of the keys that the text names, and a recheck is what 02 asks for. The test that it is asked for goes by bytes and
-- numbers, where equal means the same; and entries that are the same where the text looks are judged alike.
use Prim.Native.Nat.{ℕ, zero, suc, ◌+◌, ◌≤◌, ◌<◌}
use native.Mathlib.Nat.{eq-or-lt_of_le}
use native.Mathlib.Omega.{arith}
use mathlib.Core.Path.{◌≡◌, refl, sym, ap, subst, ◌∙◌}
use mathlib.Core.Logic.{◌⊎◌, inl, inr}
use mathlib.Core.Bool.{Bool, true, false, not, cond, ◌&&◌, ◌||◌, true≢false, and-eq-true_iff}
use mathlib.Core.List.{List}
use lib.ListN.{length}
use lib.Dec.{ltb}
use borrow.Author.Tests.{eqb-true, eq-eqb, ltb-true, ltb-false}
use Rattle.paper.specs.Answers.{Answer, ok, refused}
use Rattle.paper.specs.Tokens.{same_bytes}
use Rattle.paper.specs.Keys.{most_keys}
use Rattle.paper.specs.Entry.{match_at, priority_of, entry_of}
use Rattle.paper.specs.Types.{type_of, root_type, typed}
use Rattle.paper.specs.Calls.{Restriction, restriction, judge_answer}
use Rattle.paper.specs.Named.{names, marked, set_of, Summary, summary_answer}
use Rattle.paper.specs.Rechecking.{Rechecked, reused, judged, said_by, passes, same_from, same_priority, reuses, reuses_by, recheck_answer}
use Rattle.paper.specs.RecheckedRight.{bit_at, Summarizes, BitsAreNames, Reusable, Rechecks, is_reused, is_judged, ReusedExactly, FreshIfTrue}
use Rattle.paper.proofs.Stages.{bind_ok}
use Rattle.paper.proofs.Words.{same_bytes_lem, bytes_same}
use Rattle.paper.proofs.KeyLists.{keys_listed}
use Rattle.paper.proofs.TranslationCorrect.{passing}
use Rattle.paper.proofs.KeySets.{ones_count, bit_of_lem, no_bit_past, set_fits, count_of_lem}
use Rattle.paper.proofs.Named.{names_below, names_none_past, mark_is_priority}
use Rattle.paper.proofs.Depends.{same_judgement}

-- the summary of a text and a list that pass

module _ (text list : List ℕ) (r : Restriction) (passed : restriction text list ≡ ok r) where
  abbrev named : ℕ → Bool
  named = names r.keys r.root

  abbrev pub summary : Summary
  summary = record { keys = set_of named; priority = marked r.root }

  few : length r.keys ≤ most_keys
  few = (keys_listed list r.keys (passing text list r passed).listed).few

  none_named : (k : ℕ) → length r.keys ≤ k → named k ≡ false
  none_named k past = names_none_past r.keys k r.root past

  bits : (k : ℕ) → bit_at (set_of named) k ≡ named k
  bits k = go (ltb k most_keys) refl
    where
      go : (b : Bool) → ltb k most_keys ≡ b → bit_at (set_of named) k ≡ named k
      go true e = bit_of_lem named k (ltb-true k most_keys e)
      go false e =
          let past = ltb-false k most_keys e in
          no_bit_past named k past ∙ sym (none_named k (omega (arith, few, past)))

  pub summarizes : Summarizes r.keys r.root summary
  unfolding typed
  summarizes =
      let (a, has, _) = bind_ok (type_of r.keys r.root) (root_type r.root) tt (passing text list r passed).checked in
      record {
        bits = bits;
        none_past = λ k past. bits k ∙ none_named k past;
        fits = set_fits named;
        count = ones_count named ∙ count_of_lem named (length r.keys) few none_named;
        mark = mark_is_priority r.keys r.root a has;
      }

  pub summary_there : summary_answer text list ≡ ok summary
  unfolding summary_answer
  summary_there = rw passed

pub bits_are_names : BitsAreNames
bits_are_names text list r passed =
    (summary text list r passed, summary_there text list r passed, summarizes text list r passed)

-- a test "if a, then b"

test_implies : (a b : Bool) → not a || b ≡ true → a ≡ true → b ≡ true
test_implies true b h g = h
test_implies false b h g = absurd (true≢false (sym g))

pub implies_test : (a b : Bool) → (a ≡ true → b ≡ true) → not a || b ≡ true
implies_test true b h = h refl
implies_test false b h = refl

-- "no named record differs"

module _ (named : ℕ → Bool) (old new : List ℕ) where
  abbrev same_at : ℕ → Bool
  same_at k = same_bytes (match_at old k) (match_at new k)

  records_same : (n k j : ℕ) → same_from named old new k n ≡ true → k ≤ j → j < k + n → named j ≡ true → match_at old j ≡ match_at new j
  records_same zero k j h low high g = absurd (omega (arith, low, high))
  records_same (suc n) k j h low high g =
      let (here, later) = (and-eq-true_iff (not (named k) || same_at k) (same_from named old new (suc k) n)).0 h in
      go (eq-or-lt_of_le low) here (λ l. records_same n (suc k) j later l (omega (arith, high)) g)
    where
      go : (k ≡ j) ⊎ (k < j) → not (named k) || same_at k ≡ true → (suc k ≤ j → match_at old j ≡ match_at new j) → match_at old j ≡ match_at new j
      go (inl e) here later =
          let same = test_implies (named k) (same_at k) here (ap named e ∙ g) in
          subst (λ (m : ℕ). match_at old m ≡ match_at new m) e (same_bytes_lem (match_at old k) (match_at new k) same)
      go (inr l) here later = later l

  pub same_records_lem : (n k : ℕ) → ((j : ℕ) → named j ≡ true → match_at old j ≡ match_at new j) → same_from named old new k n ≡ true
  same_records_lem zero k same = refl
  same_records_lem (suc n) k same =
      let equal : named k ≡ true → same_at k ≡ true = λ g. ap (same_bytes (match_at old k)) (sym (same k g)) ∙ bytes_same (match_at old k) in
      (and-eq-true_iff (not (named k) || same_at k) (same_from named old new (suc k) n)).1
      (implies_test (named k) (same_at k) equal, same_records_lem n (suc k) same)

passes_with : {A : Type 0} (x : Answer A) → passes x ≡ true → (a : A) × (x ≡ ok a)
passes_with (ok a) h = (a, refl)
passes_with (refused n i at) h = absurd (true≢false (sym h))

-- the test of a recheck is what is asked of it

module _ (text list old new : List ℕ) where
  module _ (r : Restriction) where
    abbrev old_passes : Bool
    old_passes = passes (entry_of r.keys old)

    abbrev new_passes : Bool
    new_passes = passes (entry_of r.keys new)

    abbrev same_records : Bool
    same_records = same_from (names r.keys r.root) old new 0 (length r.keys)

    abbrev same_rank : Bool
    same_rank = same_priority (marked r.root) old new

    reuses_parts : reuses r old new ≡ true → (old_passes ≡ true) × (new_passes ≡ true) × (same_records ≡ true) × (same_rank ≡ true)
    reuses_parts h =
        let (three, fourth) = (and-eq-true_iff (old_passes && new_passes && same_records) same_rank).0 h in
        let (two, third) = (and-eq-true_iff (old_passes && new_passes) same_records).0 three in
        let (first, second) = (and-eq-true_iff old_passes new_passes).0 two in
        (first, second, third, fourth)

    test_reusable : restriction text list ≡ ok r → reuses r old new ≡ true → Reusable text list old new
    test_reusable passed h =
        let (first, second, third, fourth) = reuses_parts h in
        let (was, old_conforms) = passes_with (entry_of r.keys old) first in
        let (is, new_conforms) = passes_with (entry_of r.keys new) second in
        record {
          both =
              record { rule = r; passes = passed; was = was; old_conforms = old_conforms; is = is; new_conforms = new_conforms };
          same =
              record {
                records = λ k g.
                    let below = names_below r.keys k r.root g in
                    records_same (names r.keys r.root) old new (length r.keys) 0 k third (omega arith) (omega (arith, below)) g;
                priority = λ m. eqb-true (priority_of old) (priority_of new) (test_implies (marked r.root) _ fourth m);
              };
        }

  reusable : reuses_by (restriction text list) old new ≡ true → Reusable text list old new
  reusable h = go (restriction text list) refl h
    where
      go : (x : Answer Restriction) → restriction text list ≡ x → reuses_by x old new ≡ true → Reusable text list old new
      go (ok r) e h = test_reusable r e h
      go (refused n i at) e h = absurd (true≢false (sym h))

  reused_test : Reusable text list old new → reuses_by (restriction text list) old new ≡ true
  reused_test u =
      let both = u.both in
      let r = both.rule in
      let same = same_records_lem (names r.keys r.root) old new (length r.keys) 0 u.same.records in
      let rank = implies_test (marked r.root) _ (λ m. eq-eqb (priority_of old) (priority_of new) (u.same.priority m)) in
      rw (both.passes, both.old_conforms, both.new_conforms, same) rank

  -- so the recheck is the one that is asked for, and it is the only one

  module _ (earlier : Answer Bool) where
    abbrev answer : Bool → Rechecked
    answer b = cond b (reused earlier) (judged (judge_answer text list new))

    by_test : (b : Bool) → reuses_by (restriction text list) old new ≡ b → Rechecks text list old earlier new (answer b)
    by_test true e = is_reused (reusable e)
    by_test false e = is_judged (λ u. true≢false (sym (reused_test u) ∙ e))

    recheck_right : Rechecks text list old earlier new (recheck_answer text list old earlier new)
    unfolding recheck_answer
    recheck_right = by_test (reuses_by (restriction text list) old new) refl

    judged_test : ¬ Reusable text list old new → (b : Bool) → reuses_by (restriction text list) old new ≡ b → b ≡ false
    judged_test unless false e = refl
    judged_test unless true e = absurd (unless (reusable e))

    only_one : (r : Rechecked) → Rechecks text list old earlier new r → recheck_answer text list old earlier new ≡ r
    unfolding recheck_answer
    only_one r (is_reused u) = ap answer (reused_test u)
    only_one r (is_judged unless) = ap answer (judged_test unless (reuses_by (restriction text list) old new) refl)

    fresh : earlier ≡ judge_answer text list old → (r : Rechecked) → Rechecks text list old earlier new r
        → said_by r ≡ judge_answer text list new
    fresh true-then r (is_reused u) = true-then ∙ same_judgement text list old new u.both u.same
    fresh true-then r (is_judged unless) = refl

pub reused_exactly : ReusedExactly
reused_exactly text list old earlier new r = (
  λ e. subst (Rechecks text list old earlier new) e (recheck_right text list old new earlier),
  only_one text list old new earlier r,
)

pub fresh_if_true : FreshIfTrue
fresh_if_true text list old new earlier true-then =
    fresh text list old new earlier true-then (recheck_answer text list old earlier new) (recheck_right text list old new earlier)
