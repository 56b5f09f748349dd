-- 02 f: "Given the old entry, its earlier answer and the new entry, the recheck reuses that answer exactly when both entries conform, no
-- named record differs and, if marked, the priority is the same; otherwise it judges the new entry, refusals included. It says whether
-- it reused."
use Rattle.std.specs.Prelude.{ℕ, zero, suc, Bool, true, false, not, cond, ◌&&◌, ◌||◌, List, length, eqb}
use Rattle.paper.specs.declared.Rechecking.{Rechecking}
use Rattle.paper.specs.declared.Rechecking.TheVariants as R
use Rattle.paper.specs.Answers.{Answer, ok, refused, judgement_says}
use Rattle.paper.specs.Tokens.{same_bytes}
use Rattle.paper.specs.Entry.{match_at, priority_of, entry_of}
use Rattle.paper.specs.Calls.{Restriction, restriction, judge_answer}
use Rattle.paper.specs.Named.{names, marked}

-- "It says whether it reused": the earlier answer as it was given, or that of judging the new entry
pub data Rechecked : Type 0 where
  reused judged : Answer Bool → Rechecked

abbrev pub said_by : Rechecked → Answer Bool
said_by (reused a) = a
said_by (judged a) = a

abbrev pub passes : {A : Type 0} → Answer A → Bool
passes (ok a) = true
passes (refused n i at) = false

-- "no named record differs": of n records from record k on, by their bytes
abbrev pub same_from : (ℕ → Bool) → List ℕ → List ℕ → ℕ → ℕ → Bool
same_from named old new k zero = true
same_from named old new k (suc n) = (not (named k) || same_bytes (match_at old k) (match_at new k)) && same_from named old new (suc k) n

-- "and, if marked, the priority is the same"
abbrev pub same_priority : Bool → List ℕ → List ℕ → Bool
same_priority mark old new = not mark || eqb (priority_of old) (priority_of new)

-- "exactly when both entries conform, no named record differs and, if marked, the priority is the same"
abbrev pub reuses : Restriction → List ℕ → List ℕ → Bool
reuses r old new =
    passes (entry_of r.keys old)
    && passes (entry_of r.keys new)
    && same_from (names r.keys r.root) old new 0 (length r.keys)
    && same_priority (marked r.root) old new

-- where text and list pass
abbrev pub reuses_by : Answer Restriction → List ℕ → List ℕ → Bool
reuses_by (ok r) old new = reuses r old new
reuses_by (refused n i at) old new = false

unfoldable pub recheck_answer : List ℕ → List ℕ → List ℕ → Answer Bool → List ℕ → Rechecked
unfolding restriction entry_of names marked judge_answer
recheck_answer text list old earlier new =
    cond (reuses_by (restriction text list) old new) (reused earlier) (judged (judge_answer text list new))

abbrev pub rechecking_says : Rechecking → Rechecked
rechecking_says (R.Reused j) = reused (judgement_says j)
rechecking_says (R.Judged j) = judged (judgement_says j)
