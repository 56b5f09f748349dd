-- Refusals 19 and 20 by the table, of one entry; 25, of many; and of many with their answers 19 and 15.
use Prim.Native.Nat.{ℕ, zero, suc, ◌+◌, ◌*◌, ◌^◌, ◌<◌, suc-le-suc}
use native.Mathlib.Omega.{arith}
use mathlib.Core.Path.{◌≡◌, refl, sym, ap, subst, ◌∙◌}
use mathlib.Core.Bool.{Bool, true, false, true≢false}
use mathlib.Core.Option.{Option, none, some}
use mathlib.Core.List.{List, [], ◌∷◌}
use lib.ListN.{length, get_elem?}
use lib.Dec.{eqb, leb, ltb}
use borrow.Author.Tests.{eqb-true, eqb-false, leb-true, leb-false, ltb-false, le-ltb}
use Rattle.paper.specs.Answers.{Answer, ok, ◌>>=◌, require, in_turn, in_entry, in_buffer}
use Rattle.paper.specs.Keys.{Key, keys}
use Rattle.paper.specs.Entry.{Entry, head_size, match_size, match_at, match_ok, matches_from, asked, priority_of, rule_test, entry_of}
use Rattle.paper.specs.Counting.{entry_size, whole_in, cut_in, most_entries, few_entries}
use Rattle.paper.specs.RunAll.{whole_only, answers_fit}
use Rattle.paper.specs.Faults.{Faults, EntrySize, entry_wrong, EntryRules, priority_broken, match_broken, EntriesMany, entries_over, EntriesSize, entries_cut, AnswersSize, answers_few}
use Rattle.paper.specs.Table.{Free, stage, Given, entry_stages, entries_stages, table_stages}
use Rattle.paper.proofs.Basics.{some_below}
use Rattle.paper.proofs.Stages.{bind_again}
use Rattle.paper.proofs.StagesInOrder.{Tells, test_tells, given_tells, Follows, follows_one, follows_as, follows_then}
use Rattle.paper.proofs.Earliest.{Indexed, test_tells_at, tests_tell}

module _ (ks : List Key) (entry : List ℕ) where
  -- the length

  abbrev sized : Bool
  sized = eqb (length entry) (head_size + match_size * length ks)

  size_free : sized ≡ true → Free (EntrySize ks entry)
  size_free h n at (entry_wrong d) = d (eqb-true (length entry) (head_size + match_size * length ks) h)

  size_only : (m to : ℕ) → EntrySize ks entry m to → (m ≡ 19) × (to ≡ length entry)
  size_only m to (entry_wrong d) = (refl, refl)

  size_tells : Tells in_entry (EntrySize ks entry) (require sized 19 in_entry (length entry))
  size_tells =
      test_tells (EntrySize ks entry) sized 19 in_entry (length entry) size_free
      (λ h. entry_wrong (eqb-false (length entry) (head_size + match_size * length ks) h)) size_only

  -- the priority, and then the records

  abbrev place : ℕ → ℕ
  place zero = 0
  place (suc k) = head_size + k * match_size

  abbrev right : ℕ → Bool
  right zero = ltb (priority_of entry) (2 ^ 31)
  right (suc k) = asked (get_elem? ks k) (λ x. match_ok x (match_at entry k))

  abbrev part_test : ℕ → Answer (Unit {0})
  part_test k = require (right k) 20 in_entry (place k)

  -- the records are the parts after the first
  rules_tests : (n k : ℕ) → in_turn (rule_test ks entry) k n ≡ in_turn part_test (suc k) n
  rules_tests zero k = refl
  rules_tests (suc n) k = ap (λ (later : Answer (Unit {0})). rule_test ks entry k >>= λ _. later) (rules_tests n (suc k))

  index_of : (n at : ℕ) → EntryRules ks entry n at → (k : ℕ) × (k < suc (length ks)) × (at ≡ place k) × (right k ≡ false)
  index_of n at (priority_broken h) = (0, omega arith, refl, le-ltb (priority_of entry) (2 ^ 31) h)
  index_of n at (match_broken k x e h) = (suc k, suc-le-suc (some_below ks k x e), refl, rw e h)

  rises : (j k : ℕ) → j < k → place j < place k
  rises zero zero l = elim l [ ]
  rises zero (suc k) l = omega arith
  rises (suc j) zero l = elim l [ ]
  rises (suc j) (suc k) l = omega arith

  indexed : Indexed (EntryRules ks entry) (suc (length ks)) place
  indexed = record { index = λ n at h. let (k, l, e, bad) = index_of n at h in (k, l, e); rises = rises }

  fault_at : (k : ℕ) → k < suc (length ks) → right k ≡ false → EntryRules ks entry 20 (place k)
  fault_at zero l h = priority_broken (ltb-false (priority_of entry) (2 ^ 31) h)
  fault_at (suc k) l h = go (get_elem? ks k) refl h
    where
      go : (o : Option Key) → get_elem? ks k ≡ o → asked o (λ x. match_ok x (match_at entry k)) ≡ false → EntryRules ks entry 20 (head_size + k * match_size)
      go none e g = absurd (true≢false g)
      go (some x) e g = match_broken k x e g

  place_once : (j k : ℕ) → place j ≡ place k → j ≡ k
  place_once zero zero e = refl
  place_once zero (suc k) e = absurd (omega arith)
  place_once (suc j) zero e = absurd (omega arith)
  place_once (suc j) (suc k) e = omega arith

  broken_at : (k n : ℕ) → EntryRules ks entry n (place k) → right k ≡ false
  broken_at k n h =
      let (j, l, e, bad) = index_of n (place k) h in
      subst (λ x. right x ≡ false) (place_once j k (sym e)) bad

  only : (n at : ℕ) → EntryRules ks entry n at → n ≡ 20
  only n at (priority_broken h) = refl
  only n at (match_broken k x e h) = refl

  rules_tell : Tells in_entry (EntryRules ks entry) (in_turn part_test 0 (suc (length ks)))
  rules_tell =
      tests_tell in_entry (EntryRules ks entry) (suc (length ks)) place indexed part_test
      (λ k l.
      test_tells_at in_entry (EntryRules ks entry) (suc (length ks)) place indexed k 20 (right k)
      (λ good n h. true≢false (sym good ∙ broken_at k n h)) (fault_at k l) only)

  rules_stage : (require (ltb (priority_of entry) (2 ^ 31)) 20 in_entry 0 >>= λ _. in_turn (rule_test ks entry) 0 (length ks))
      ≡ in_turn part_test 0 (suc (length ks))
  rules_stage =
      ap (λ (later : Answer (Unit {0})). require (ltb (priority_of entry) (2 ^ 31)) 20 in_entry 0 >>= λ _. later) (rules_tests (length ks) 0)

-- of the keys of a list
pub entry_follows : (list : List ℕ) (ks : List Key) (entry : List ℕ) → keys list ≡ ok ks
    → Follows (entry_stages list entry) (entry_of ks entry)
unfolding entry_of
entry_follows list ks entry listed =
    let size = require (sized ks entry) 19 in_entry (length entry) in
    let high = require (ltb (priority_of entry) (2 ^ 31)) 20 in_entry 0 in
    let each = in_turn (rule_test ks entry) 0 (length ks) in
    let rules = high >>= λ _. each in
    let e : Entry = record { priority = priority_of entry; matches = matches_from entry 0 ks } in
    let told : Tells in_entry (EntryRules ks entry) rules = rw (rules_stage ks entry) (rules_tell ks entry) in
    let one = given_tells (keys list) ks listed (λ ks. EntrySize ks entry) in_entry size (size_tells ks entry) in
    let two = given_tells (keys list) ks listed (λ ks. EntryRules ks entry) in_entry rules told in
    let last = stage in_entry (Given (keys list) (λ ks. EntryRules ks entry)) ∷ [] in
    follows_then (stage in_entry (Given (keys list) (λ ks. EntrySize ks entry)) ∷ []) last size
    (λ _. high >>= λ _. each >>= λ _. ok e)
    (follows_one in_entry (Given (keys list) (λ ks. EntrySize ks entry)) size one)
    (λ _ _.
    subst (λ (a : Answer Entry). Follows last a) (bind_again high (λ _. each) (λ _. ok e))
    (follows_as last rules (λ _. e) (follows_one in_entry (Given (keys list) (λ ks. EntryRules ks entry)) rules two)))

-- many: their number

module _ (ks : List Key) (entries : List ℕ) where
  abbrev few : Bool
  few = leb (whole_in ks entries) most_entries

  many_free : few ≡ true → Free (EntriesMany ks entries)
  many_free h n at (entries_over l) = let e = leb-true (whole_in ks entries) most_entries h in omega (arith, e, l)

  many_only : (m to : ℕ) → EntriesMany ks entries m to → (m ≡ 25) × (to ≡ most_entries * entry_size ks)
  many_only m to (entries_over l) = (refl, refl)

  many_tells : Tells in_entry (EntriesMany ks entries) (few_entries ks entries)
  many_tells =
      test_tells (EntriesMany ks entries) few 25 in_entry (most_entries * entry_size ks) many_free
      (λ h. entries_over (leb-false (whole_in ks entries) most_entries h)) many_only

pub entries_follow : (list : List ℕ) (ks : List Key) (entries : List ℕ) → keys list ≡ ok ks
    → Follows (entries_stages list entries) (few_entries ks entries)
entries_follow list ks entries listed =
    let many : List Key → Faults = λ ks. EntriesMany ks entries in
    follows_one in_entry (Given (keys list) many) (few_entries ks entries)
    (given_tells (keys list) ks listed many in_entry (few_entries ks entries) (many_tells ks entries))

-- many, with their answers: none is cut, and there is an answer for each

module _ (ks : List Key) (entries : List ℕ) where
  whole_free : eqb (cut_in ks entries) 0 ≡ true → Free (EntriesSize ks entries)
  whole_free h n at (entries_cut d) = d (eqb-true (cut_in ks entries) 0 h)

  whole_only_lem : (m to : ℕ) → EntriesSize ks entries m to → (m ≡ 19) × (to ≡ length entries)
  whole_only_lem m to (entries_cut d) = (refl, refl)

  whole_tells : Tells in_entry (EntriesSize ks entries) (whole_only ks entries)
  whole_tells =
      test_tells (EntriesSize ks entries) (eqb (cut_in ks entries) 0) 19 in_entry (length entries) whole_free
      (λ h. entries_cut (eqb-false (cut_in ks entries) 0 h)) whole_only_lem

  module _ (answers : List ℕ) where
    abbrev enough : Bool
    enough = leb (whole_in ks entries) (length answers)

    answers_free : enough ≡ true → Free (AnswersSize ks entries answers)
    answers_free h n at (answers_few l) = let e = leb-true (whole_in ks entries) (length answers) h in omega (arith, e, l)

    answers_only : (m to : ℕ) → AnswersSize ks entries answers m to → (m ≡ 15) × (to ≡ length answers)
    answers_only m to (answers_few l) = (refl, refl)

    answers_tell : Tells in_buffer (AnswersSize ks entries answers) (answers_fit ks entries answers)
    answers_tell =
        test_tells (AnswersSize ks entries answers) enough 15 in_buffer (length answers) answers_free
        (λ h. answers_few (leb-false (whole_in ks entries) (length answers) h)) answers_only

-- whatever is answered where both pass
pub table_follows : {A : Type 0} (list : List ℕ) (ks : List Key) (entries answers : List ℕ) (v : A) → keys list ≡ ok ks
    → Follows (table_stages list entries answers) (whole_only ks entries >>= λ _. answers_fit ks entries answers >>= λ _. ok v)
table_follows list ks entries answers v listed =
    let size : List Key → Faults = λ ks. EntriesSize ks entries in
    let room : List Key → Faults = λ ks. AnswersSize ks entries answers in
    let last = stage in_buffer (Given (keys list) room) ∷ [] in
    let one = given_tells (keys list) ks listed size in_entry (whole_only ks entries) (whole_tells ks entries) in
    let two = given_tells (keys list) ks listed room in_buffer (answers_fit ks entries answers) (answers_tell ks entries answers) in
    follows_then (stage in_entry (Given (keys list) size) ∷ []) last (whole_only ks entries) (λ _. answers_fit ks entries answers >>= λ _. ok v)
    (follows_one in_entry (Given (keys list) size) (whole_only ks entries) one)
    (λ _ _.
    follows_as last (answers_fit ks entries answers) (λ _. v)
    (follows_one in_buffer (Given (keys list) room) (answers_fit ks entries answers) two))
