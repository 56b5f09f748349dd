-- 02 f, once more: what a summary and a recheck are to be, with nothing of how they are found. And what is known of them: they are that and
-- nothing else, and an answer that was true is handed on only where it is true again.
use Rattle.std.specs.Prelude.{ℕ, ◌/◌, ◌%◌, ◌^◌, ◌≤◌, ◌<◌, ◌≡◌, ◌↔◌, Bool, true, false, ◌||◌, List, length, eqb}
use Rattle.std.specs.Int.Count.{ones}
use Rattle.paper.specs.Answers.{Answer, ok}
use Rattle.paper.specs.Tokens.{bytes, same_bytes}
use Rattle.paper.specs.Keys.{Key, most_keys}
use Rattle.paper.specs.Entry.{Entry, match_at, priority_of, entry_of}
use Rattle.paper.specs.Grammar.{Tree, truth, number, key, field, attribute, prefixed, joined, compared}
use Rattle.paper.specs.Calls.{Restriction, restriction, judge_answer}
use Rattle.paper.specs.Named.{names, marked, count_from, Summary, summary_answer}
use Rattle.paper.specs.Rechecking.{Rechecked, reused, judged, said_by, recheck_answer}

-- "a 32-bit set with one bit for each key the text names": a bit is set exactly where the text names the key, so no bit at or above the
-- number of keys is; "Report how many keys it names": the ones are as many as the keys of the list that it names

abbrev pub bit_at : ℕ → ℕ → Bool
bit_at set k = eqb (set / 2 ^ k % 2) 1

-- "a mark for ::priority"
abbrev pub names_priority : Tree → Bool
names_priority (truth at b) = false
names_priority (number at n) = false
names_priority (key at w) = false
names_priority (field at w to f) = false
names_priority (attribute at to f) = same_bytes f (bytes "priority")
names_priority (prefixed at o t) = names_priority t
names_priority (joined at o l r) = names_priority l || names_priority r
names_priority (compared at c l r) = names_priority l || names_priority r

pub record Summarizes (ks : List Key) (t : Tree) (s : Summary) : Type 0 where
  pub bits : (k : ℕ) → bit_at s.keys k ≡ names ks t k
  pub none_past : (k : ℕ) → length ks ≤ k → bit_at s.keys k ≡ false
  pub fits : s.keys < 2 ^ most_keys
  pub count : ones s.keys ≡ count_from (names ks t) 0 (length ks)
  pub mark : s.priority ≡ names_priority t

abbrev pub BitsAreNames : Type 0
BitsAreNames =
    (text list : List ℕ) (r : Restriction) → restriction text list ≡ ok r
    → (s : Summary) × (summary_answer text list ≡ ok s) × Summarizes r.keys r.root s

-- "no named record differs and, if marked, the priority is the same"
pub record SameNamed (ks : List Key) (t : Tree) (old new : List ℕ) : Type 0 where
  pub records : (k : ℕ) → names ks t k ≡ true → match_at old k ≡ match_at new k
  pub priority : marked t ≡ true → priority_of old ≡ priority_of new

-- "both entries conform", to the list of a restriction that passes
pub record BothConform (text list old new : List ℕ) : Type 0 where
  pub rule : Restriction
  pub passes : restriction text list ≡ ok rule
  pub was : Entry
  pub old_conforms : entry_of rule.keys old ≡ ok was
  pub is : Entry
  pub new_conforms : entry_of rule.keys new ≡ ok is

-- "exactly when both entries conform, no named record differs and, if marked, the priority is the same"
pub record Reusable (text list old new : List ℕ) : Type 0 where
  pub both : BothConform text list old new
  pub same : SameNamed both.rule.keys both.rule.root old new

-- "the recheck reuses that answer exactly when ..; otherwise it judges the new entry, refusals included. It says whether it reused."
pub data Rechecks (text list old : List ℕ) (earlier : Answer Bool) (new : List ℕ) : Rechecked → Type 0 where
  is_reused : Reusable text list old new → Rechecks text list old earlier new (reused earlier)
  is_judged : ¬ Reusable text list old new → Rechecks text list old earlier new (judged (judge_answer text list new))

-- the recheck is that, and nothing else
abbrev pub ReusedExactly : Type 0
ReusedExactly =
    (text list old : List ℕ) (earlier : Answer Bool) (new : List ℕ) (r : Rechecked)
    → (recheck_answer text list old earlier new ≡ r) ↔ Rechecks text list old earlier new r

-- "If the earlier answer is the old entry's true judgement, the result is the judgement worked out afresh for the new one."
abbrev pub FreshIfTrue : Type 0
FreshIfTrue =
    (text list old new : List ℕ) (earlier : Answer Bool) → earlier ≡ judge_answer text list old
    → said_by (recheck_answer text list old earlier new) ≡ judge_answer text list new
