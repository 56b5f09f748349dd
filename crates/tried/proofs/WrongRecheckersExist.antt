-- The wrong rechecks and summaries are real: each asks another test of the two entries, or takes other keys into the set.
use Prim.Native.Nat.{ℕ, zero, suc, ◌<◌}
use Rattle.std.specs.Prelude.{Result}
use Rattle.paper.specs.declared.Refusal.{Refusal}
use Rattle.paper.specs.declared.Summary as C
use mathlib.Core.Path.{◌≡◌, refl, sym, ap, ◌∙◌}
use mathlib.Core.Bool.{Bool, true, false, not, cond, ◌&&◌, ◌||◌, and-eq-true_iff, or-true}
use mathlib.Core.Option.{Option, none, some}
use mathlib.Core.List.{List}
use lib.ListN.{length, get_elem?}
use lib.Dec.{eqb, ltb}
use borrow.Author.Tests.{eq-eqb, ltb-true, ltb-false}
use Rattle.paper.specs.declared.Rechecking.TheVariants as K
use Rattle.paper.specs.Answers.{Answer, ok, refused, ◌>>=◌, refusal, Judgement}
use Rattle.paper.specs.Tokens.{same_bytes}
use Rattle.paper.specs.Keys.{Key, most_keys}
use Rattle.paper.specs.Entry.{Match, Entry, priority_of, entry_of}
use Rattle.paper.specs.Grammar.{Tree}
use Rattle.paper.specs.Calls.{Restriction, restriction, judge_answer}
use Rattle.paper.specs.Named.{names, marked, set_of, Summary, summed}
use Rattle.paper.specs.Rechecking.{same_from, same_priority}
use Rattle.paper.specs.RecheckedRight.{bit_at, BothConform}
use Rattle.tried.specs.WrongRecheckers.{Rechecker, NeverReuses, AlwaysReuses, WantsEqualEntries, ForgetsPriority, ComparesReadings, Summarizer, HasBit, CountsPriority, bare_names, MissesFields}
use Rattle.paper.proofs.Words.{bytes_not}
use Rattle.paper.proofs.KeySets.{bit_of_lem, no_bit_past}
use Rattle.paper.proofs.RecheckedRight.{implies_test, same_records_lem}
use Rattle.paper.proofs.Promised.{place_at, judgement_for}

-- a recheck by any test of two entries that conform

abbrev Test : Type 0
Test = Restriction → List ℕ → Entry → List ℕ → Entry → Bool

abbrev tested : Test → List ℕ → List ℕ → List ℕ → List ℕ → Answer Bool
tested test text list old new =
    restriction text list
    >>= λ r. entry_of r.keys old
    >>= λ was. entry_of r.keys new
    >>= λ is. ok (test r old was new is)

abbrev says : Answer Bool → Bool
says (ok b) = b
says (refused n i at) = false

abbrev pub recheck_by : Test → Rechecker
recheck_by test text list old earlier new =
    cond (says (tested test text list old new)) (K.Reused earlier) (K.Judged (judgement_for (judge_answer text list new)))

module _ (test : Test) (text list old new : List ℕ) where
  reuses_by : (b : BothConform text list old new) → test b.rule old b.was new b.is ≡ true → (earlier : Judgement)
      → recheck_by test text list old earlier new ≡ K.Reused earlier
  reuses_by b holds earlier = rw (b.passes, b.old_conforms, b.new_conforms, holds)

  -- a test that fails of whatever the entries read as
  module _ (fails : (r : Restriction) (was is : Entry) → test r old was new is ≡ false) where
    new_fails : (r : Restriction) (was : Entry) (x : Answer Entry) → says (x >>= λ is. ok (test r old was new is)) ≡ false
    new_fails r was (ok is) = fails r was is
    new_fails r was (refused n i at) = refl

    old_fails : (r : Restriction) (x : Answer Entry)
        → says (x >>= λ was. entry_of r.keys new >>= λ is. ok (test r old was new is)) ≡ false
    old_fails r (ok was) = new_fails r was (entry_of r.keys new)
    old_fails r (refused n i at) = refl

    rule_fails : (x : Answer Restriction)
        → says (x >>= λ r. entry_of r.keys old >>= λ was. entry_of r.keys new >>= λ is. ok (test r old was new is)) ≡ false
    rule_fails (ok r) = old_fails r (entry_of r.keys old)
    rule_fails (refused n i at) = refl

    judges_by : (earlier : Judgement) → (j : Judgement) × (recheck_by test text list old earlier new ≡ K.Judged j)
    judges_by earlier = (judgement_for (judge_answer text list new), rw (rule_fails (restriction text list)))

-- the tests: none, equal entries, the named records without the priority

abbrev never : Test
never r old was new is = false

pub never_real : (x : Rechecker) × NeverReuses x
never_real = (recheck_by never, λ text list old new _. judges_by never text list old new (λ r was is. refl))

pub always_real : (x : Rechecker) × AlwaysReuses x
always_real = (λ text list old earlier new. K.Reused earlier, λ text list old new _ earlier. refl)

abbrev equal_entries : Test
equal_entries r old was new is = same_bytes old new

pub equal_real : (x : Rechecker) × WantsEqualEntries x
equal_real = (
  recheck_by equal_entries,
  λ text list old new _ differ. judges_by equal_entries text list old new (λ r was is. bytes_not old new differ),
)

abbrev unranked : Test
unranked r old was new is = same_from (names r.keys r.root) old new 0 (length r.keys)

pub unranked_real : (x : Rechecker) × ForgetsPriority x
unranked_real = (
  recheck_by unranked,
  λ text list old new _ b same.
      let r = b.rule in
      reuses_by unranked text list old new b (same_records_lem (names r.keys r.root) old new (length r.keys) 0 same),
)

-- and what the named keys read as

abbrev same_match : Option Match → Option Match → Bool
same_match none none = true
same_match none (some n) = false
same_match (some m) none = false
same_match (some m) (some n) = eqb m.first n.first && eqb m.second n.second && eqb m.length n.length

match_same : (o : Option Match) → same_match o o ≡ true
match_same none = refl
match_same (some m) = rw (eq-eqb m.first m.first refl, eq-eqb m.second m.second refl, eq-eqb m.length m.length refl)

module _ (named : ℕ → Bool) (e f : Entry) where
  abbrev read_alike : ℕ → Bool
  read_alike k = same_match (get_elem? e.matches k) (get_elem? f.matches k)

  abbrev alike_from : ℕ → ℕ → Bool
  alike_from k zero = true
  alike_from k (suc n) = (not (named k) || read_alike k) && alike_from (suc k) n

  alike : (n k : ℕ) → ((j : ℕ) → named j ≡ true → get_elem? e.matches j ≡ get_elem? f.matches j) → alike_from k n ≡ true
  alike zero k same = refl
  alike (suc n) k same =
      let equal : named k ≡ true → read_alike k ≡ true = λ g.
      ap (same_match (get_elem? e.matches k)) (sym (same k g)) ∙ match_same (get_elem? e.matches k)
      in
      (and-eq-true_iff (not (named k) || read_alike k) (alike_from (suc k) n)).1
      (implies_test (named k) (read_alike k) equal, alike n (suc k) same)

abbrev readings : Test
readings r old was new is =
    alike_from (names r.keys r.root) was is 0 (length r.keys) && same_priority (marked r.root) old new

pub readings_real : (x : Rechecker) × ComparesReadings x
readings_real = (
  recheck_by readings,
  λ text list old new _ b same rank.
      let r = b.rule in
      let records = alike (names r.keys r.root) b.was b.is (length r.keys) 0 same in
      let priority = implies_test (marked r.root) _ (λ m. eq-eqb (priority_of old) (priority_of new) (rank m)) in
      reuses_by readings text list old new b ((and-eq-true_iff _ _).1 (records, priority)),
)

-- a summary with any other keys in the set

abbrev summary_for : Answer Summary → Result C.Summary Refusal
summary_for (ok s) = summed s.keys s.priority
summary_for (refused n i at) = refusal n (place_at i at)

abbrev summarize_by : (List Key → Tree → ℕ → Bool) → Summarizer
summarize_by named text list =
    summary_for (restriction text list >>= λ r. ok (record { keys = set_of (named r.keys r.root); priority = marked r.root }))

module _ (named : List Key → Tree → ℕ → Bool) (text list : List ℕ) (r : Restriction) (passed : restriction text list ≡ ok r) where
  abbrev set : ℕ
  set = set_of (named r.keys r.root)

  has_bit : (k : ℕ) (b : Bool) → bit_at set k ≡ b → HasBit (summarize_by named text list) k b
  has_bit k b bit = (set, marked r.root, rw passed, bit)

  bit_below : (k : ℕ) (b : Bool) → named r.keys r.root k ≡ b → k < most_keys → bit_at set k ≡ b
  bit_below k b is-so below = bit_of_lem (named r.keys r.root) k below ∙ is-so

  bit_missing : (k : ℕ) → named r.keys r.root k ≡ false → bit_at set k ≡ false
  bit_missing k missing = go (ltb k most_keys) refl
    where
      go : (b : Bool) → ltb k most_keys ≡ b → bit_at set k ≡ false
      go true e = bit_below k false missing (ltb-true k most_keys e)
      go false e = no_bit_past (named r.keys r.root) k (ltb-false k most_keys e)

abbrev with_priority : List Key → Tree → ℕ → Bool
with_priority ks t k = names ks t k || (marked t && eqb (length ks) k)

pub priority_counted_real : (x : Summarizer) × CountsPriority x
priority_counted_real = (
  summarize_by with_priority,
  λ text list _ _ r passed few mark.
      let n = length r.keys in
      let there : with_priority r.keys r.root n ≡ true = rw (mark, eq-eqb n n refl) (or-true (names r.keys r.root n)) in
      has_bit with_priority text list r passed n true (bit_below with_priority text list r passed n true there few),
)

pub fields_missed_real : (x : Summarizer) × MissesFields x
fields_missed_real = (
  summarize_by bare_names,
  λ text list _ _ r passed k missing. has_bit bare_names text list r passed k false (bit_missing bare_names text list r passed k missing),
)
