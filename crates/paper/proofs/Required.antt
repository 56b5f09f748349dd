-- A record with 0 in byte 3 passes the test of that byte, and the test of the twelve bytes after it is then that of all thirteen: so a list
-- without flags is read as before, into keys of which none must be present, and of these the rule of absence is that of before. A record
-- that is present meets no new test, and an absent one only that of the flag.
use Prim.Native.Nat.{ℕ, ◌+◌, ◌*◌, ◌%◌, ◌^◌, ◌<◌}
use native.Mathlib.Omega.{arith}
use mathlib.Core.Path.{◌≡◌, refl, sym, ap, ◌∙◌}
use mathlib.Core.Bool.{Bool, true, false, not, cond, ◌&&◌, and-true, and-eq-true_iff, true≢false}
use mathlib.Core.Option.{Option, none, some}
use mathlib.Core.List.{List, [], ◌∷◌}
use lib.ListN.{length, take, drop, get_elem?}
use lib.Seq.{drop-drop}
use lib.Dec.{eqb, ltb, leb}
use borrow.Author.Tests.{eqb-true, ne_eqb}
use Rattle.paper.specs.Answers.{Answer, ok, refused, ◌>>=◌, require, in_turn, in_list, in_entry}
use Rattle.paper.specs.Numbers.{byte_at, bytes_at}
use Rattle.paper.specs.Keys.{Key, all_zero, record_size, most_keys, records_in, record_at, record_ok, keys_from, record_test, layout_rule, keys}
use Rattle.paper.specs.Entry.{Entry, head_size, match_size, match_at, is_exact, present_rule, match_ok, matches_from, priority_of, asked, rule_test, entry_of}
use Rattle.paper.specs.Meaning.{value_of, is_true}
use Rattle.paper.specs.Loading.{program, loaded, run_along}
use Rattle.paper.specs.Calls.{Restriction, restriction, judge_answer, load_answer, ran_to, run_answer}
use Rattle.paper.specs.Faults.{match_broken}
use Rattle.paper.specs.Required.{layout_before, rule_before, keys_before, match_before, test_before, entry_before, restriction_before, judge_before, load_before, run_before, NoFlags, OldListsAsBefore, unflagged, OnlyTheFlag, OnlyAbsence, MustBePresent}
use Rattle.paper.proofs.Basics.{and_false, some_below}
use Rattle.paper.proofs.Stages.{bind_ok, require_ok}
use Rattle.paper.proofs.KeyLists.{rule_kept}
use Rattle.paper.proofs.InTurn.{each_passes, same_turn}
use Rattle.paper.proofs.NamesInList.{key_there}
use Rattle.paper.proofs.TranslationCorrect.{passing}
use Rattle.paper.proofs.Depends.{entry_read}

-- the thirteen bytes, and the twelve

without_first : (r : List ℕ) → byte_at r 3 ≡ 0 → all_zero (bytes_at r 3 13) ≡ all_zero (bytes_at r 4 12)
without_first [] h = refl
without_first (a ∷ []) h = refl
without_first (a ∷ b ∷ []) h = refl
without_first (a ∷ b ∷ c ∷ []) h = refl
without_first (a ∷ b ∷ c ∷ f ∷ s) h = rw h

first_zero : (r : List ℕ) → all_zero (bytes_at r 3 13) ≡ true → byte_at r 3 ≡ 0
first_zero [] h = refl
first_zero (a ∷ []) h = refl
first_zero (a ∷ b ∷ []) h = refl
first_zero (a ∷ b ∷ c ∷ []) h = refl
first_zero (a ∷ b ∷ c ∷ f ∷ s) h = eqb-true f 0 (go (eqb f 0) h)
  where
    go : (z : Bool) → cond z (all_zero (take 12 s)) false ≡ true → z ≡ true
    go true e = refl
    go false e = e

same_layout : (r : List ℕ) → byte_at r 3 ≡ 0 → record_ok r ≡ layout_before r
same_layout r h = rw (without_first r h, h, and-true)

flag_zero : (r : List ℕ) → layout_before r ≡ true → byte_at r 3 ≡ 0
flag_zero r h = first_zero r (go (all_zero (bytes_at r 3 13)) refl)
  where
    go : (z : Bool) → all_zero (bytes_at r 3 13) ≡ z → z ≡ true
    go true e = refl
    go false e = (simp (e, and_false) at h)

-- a list without flags

module _ (list : List ℕ) where
  abbrev fits : Bool
  fits = eqb (length list % record_size) 0 && leb (length list) (most_keys * record_size)

  abbrev records : List Key
  records = keys_from list 0 (records_in list)

  passed_before : (ks : List Key) → keys_before list ≡ ok ks → NoFlags list
  unfolding keys_before
  passed_before ks h k l =
      let tests = in_turn (record_test rule_before list) 0 (records_in list) in
      let (_, _, rest) = bind_ok (require fits 2 in_list (length list)) (λ _. tests >>= λ _. ok records) ks h in
      let (_, kept, _) = bind_ok tests (λ _. ok records) ks rest in
      flag_zero (record_at list k)
      (rule_kept rule_before list k (each_passes (record_test rule_before list) (records_in list) kept k l))

  module _ (old : NoFlags list) where
    test_same : (k : ℕ) → k < records_in list → record_test layout_rule list k ≡ record_test rule_before list k
    test_same k l = rw (same_layout (record_at list k) (old k l))

    read_same : keys list ≡ keys_before list
    unfolding keys keys_before
    read_same =
        ap (λ (tests : Answer (Unit {0})). require fits 2 in_list (length list) >>= λ _. tests >>= λ _. ok records)
        (same_turn (record_test layout_rule list) (record_test rule_before list) (records_in list) test_same)

    -- none of its keys must be present
    not_required : (ks : List Key) (k : ℕ) (x : Key) → keys list ≡ ok ks → get_elem? ks k ≡ some x → x.required ≡ false
    not_required ks k x listed there =
        let (l, same) = key_there list ks listed k x there in
        rw (same, old k l)

-- a match

match_same : (k : Key) (r : List ℕ) → k.required ≡ false → match_ok k r ≡ match_before k r
match_same k r h = rw (h, and-true)

module _ (ks : List Key) (entry : List ℕ) (free : (k : ℕ) (x : Key) → get_elem? ks k ≡ some x → x.required ≡ false) where
  rule_same : (k : ℕ) → k < length ks → rule_test ks entry k ≡ test_before ks entry k
  rule_same k l = go (get_elem? ks k) refl
    where
      go : (o : Option Key) → get_elem? ks k ≡ o
          → require (asked o (λ x. match_ok x (match_at entry k))) 20 in_entry (head_size + k * match_size)
          ≡ require (asked o (λ x. match_before x (match_at entry k))) 20 in_entry (head_size + k * match_size)
      go none e = refl
      go (some x) e = rw (match_same x (match_at entry k) (free k x e))

  entry_same : entry_of ks entry ≡ entry_before ks entry
  unfolding entry_of entry_before
  entry_same =
      ap
      (λ (tests : Answer (Unit {0})).
      require (eqb (length entry) (head_size + match_size * length ks)) 19 in_entry (length entry)
      >>= λ _. require (ltb (priority_of entry) (2 ^ 31)) 20 in_entry 0
      >>= λ _. tests
      >>= λ _. ok (record { priority = priority_of entry; matches = matches_from entry 0 ks }))
      (same_turn (rule_test ks entry) (test_before ks entry) (length ks) rule_same)

-- the calls

module _ (list : List ℕ) (old : NoFlags list) where
  listed_entry : (entry : List ℕ) (ks : List Key) → keys list ≡ ok ks → entry_of ks entry ≡ entry_before ks entry
  listed_entry entry ks listed = entry_same ks entry (λ k x. not_required list old ks k x listed)

  check_same : (text : List ℕ) → restriction text list ≡ restriction_before text list
  unfolding restriction restriction_before
  check_same text = rw (read_same list old)

  judge_same : (text entry : List ℕ) → judge_answer text list entry ≡ judge_before text list entry
  unfolding judge_answer judge_before
  judge_same text entry =
      go (restriction text list) refl
      ∙ ap (λ (a : Answer Restriction). a >>= λ r. entry_before r.keys entry >>= λ e. verdict r e) (check_same text)
    where
      verdict : Restriction → Entry → Answer Bool
      verdict r e = ok (is_true (value_of r.keys e r.root))

      go : (a : Answer Restriction) → restriction text list ≡ a
          → (a >>= λ r. entry_of r.keys entry >>= λ e. verdict r e) ≡ (a >>= λ r. entry_before r.keys entry >>= λ e. verdict r e)
      go (ok r) e = rw (listed_entry entry r.keys (passing text list r e).listed)
      go (refused n i at) e = refl

  load_same : (blocks : List ℕ) → load_answer list blocks ≡ load_before list blocks
  unfolding load_answer load_before
  load_same blocks = rw (read_same list old)

  run_same : (blocks entry : List ℕ) → run_answer list blocks entry ≡ run_before list blocks entry
  unfolding run_answer run_before
  run_same blocks entry =
      go (keys list) refl
      ∙ ap
      (λ (read : Answer (List Key)).
      read >>= λ ks. loaded ks blocks >>= λ _. entry_before ks entry >>= λ e. ok (ran_to (run_along ks e (program blocks))))
      (read_same list old)
    where
      go : (read : Answer (List Key)) → keys list ≡ read
          → (read >>= λ ks. loaded ks blocks >>= λ _. entry_of ks entry >>= λ e. ok (ran_to (run_along ks e (program blocks))))
          ≡ (read >>= λ ks. loaded ks blocks >>= λ _. entry_before ks entry >>= λ e. ok (ran_to (run_along ks e (program blocks))))
      go (ok ks) e = rw (listed_entry entry ks e)
      go (refused n i at) e = refl

pub old_lists_as_before : OldListsAsBefore
old_lists_as_before =
    record {
      passed_before = passed_before;
      read = read_same;
      entries = λ list entry ks old. listed_entry list old entry ks;
      checked = λ text list old. check_same list old text;
      judged = λ text list entry old. judge_same list old text entry;
      loads = λ list blocks old. load_same list old blocks;
      runs = λ list blocks entry old. run_same list old blocks entry;
    }

-- a record with a flag

-- the bytes after the name are not those of the flag
after_name : (a b c f : ℕ) (s : List ℕ) → drop (16 + a) (a ∷ b ∷ c ∷ f ∷ s) ≡ drop (12 + a) s
after_name a b c f s = sym (drop-drop (12 + a) 4 (a ∷ b ∷ c ∷ f ∷ s) ∙ ap (λ (n : ℕ). drop n (a ∷ b ∷ c ∷ f ∷ s)) (four a))
  where
    four : (a : ℕ) → 4 + (12 + a) ≡ 16 + a
    four a = omega arith

laid_out : (r : List ℕ) → length r ≡ record_size → record_ok r ≡ (leb (byte_at r 3) 1 && layout_before (unflagged r))
laid_out [] h = absurd (omega arith)
laid_out (a ∷ []) h = absurd (omega arith)
laid_out (a ∷ b ∷ []) h = absurd (omega arith)
laid_out (a ∷ b ∷ c ∷ []) h = absurd (omega arith)
laid_out (a ∷ b ∷ c ∷ f ∷ s) h = go (leb f 1) refl
  where
    go : (z : Bool) → leb f 1 ≡ z → record_ok (a ∷ b ∷ c ∷ f ∷ s) ≡ (leb f 1 && layout_before (a ∷ b ∷ c ∷ 0 ∷ s))
    go true e = rw (after_name a b c f s, after_name a b c 0 s, e, and-true)
    go false e = rw (e, and_false)

pub only_the_flag : OnlyTheFlag
only_the_flag =
    record {
      laid_out = laid_out;
      told = λ list ks k x listed there. ap (λ (y : Key). y.required) (key_there list ks listed k x there).1;
    }

-- an absence

pub only_absence : OnlyAbsence
only_absence = record { of_present = of_present; of_absent = of_absent; of_exact = of_exact }
  where
    of_present : (k : Key) (r : List ℕ) → (byte_at r 0 ≡ 0 → ⊥) → match_ok k r ≡ match_before k r
    of_present k r h = rw (ne_eqb (byte_at r 0) 0 h)

    of_absent : (k : Key) (r : List ℕ) → byte_at r 0 ≡ 0 → match_ok k r ≡ (not k.required && match_before k r)
    of_absent k r h = rw h (go k.required)
      where
        go : (b : Bool) → (not (is_exact k.kind) && not b && all_zero (drop 1 r)) ≡ (not b && (not (is_exact k.kind) && all_zero (drop 1 r)))
        go true = rw and_false
        go false = rw and-true

    of_exact : (k : Key) (r : List ℕ) → is_exact k.kind ≡ true → match_ok k r ≡ match_before k r
    of_exact k r h = rw h

absence_breaks : (k : Key) (r : List ℕ) → k.required ≡ true → byte_at r 0 ≡ 0 → match_ok k r ≡ false
absence_breaks k r h e = rw (only_absence.of_absent k r e, h)

-- so a record that keeps its rule has 1 in byte 0
present : (k : Key) (r : List ℕ) → k.required ≡ true → match_ok k r ≡ true → byte_at r 0 ≡ 1
present k r h good = go (eqb (byte_at r 0) 0) refl
  where
    go : (z : Bool) → eqb (byte_at r 0) 0 ≡ z → byte_at r 0 ≡ 1
    go true e = absurd (true≢false (sym good ∙ absence_breaks k r h (eqb-true (byte_at r 0) 0 e)))
    go false e = eqb-true (byte_at r 0) 1 ((and-eq-true_iff (eqb (byte_at r 0) 1) (present_rule k r)).0 (rw e at good)).0

-- the records of an entry that conforms keep their rules
pub match_kept : (ks : List Key) (entry : List ℕ) (e : Entry) (k : ℕ) (x : Key) → entry_of ks entry ≡ ok e → get_elem? ks k ≡ some x
    → match_ok x (match_at entry k) ≡ true
match_kept ks entry e k x conforms there =
    let rules = (entry_read ks entry e conforms).rules in
    let passed = each_passes (rule_test ks entry) (length ks) rules k (some_below ks k x there) in
    require_ok (match_ok x (match_at entry k)) 20 in_entry (head_size + k * match_size) tt (rw there at passed)

pub must_be_present : MustBePresent
must_be_present =
    record {
      refuses = λ ks entry k x there h e. match_broken k x there (absence_breaks x (match_at entry k) h e);
      conforming = λ ks entry e k x conforms there h. present x (match_at entry k) h (match_kept ks entry e k x conforms there);
    }
