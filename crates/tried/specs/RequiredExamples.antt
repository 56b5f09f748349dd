-- 02 i, "Every part that reads key records, loader and summary included, uses the new one", by example: the marked keys, all of which must
-- be present, with the marked entry, in which o is absent, and with one that spells o out.
use Rattle.std.specs.Prelude.{ℕ, Bool, true, false, List, [], ◌∷◌, ◌++◌, replicate, take, drop}
use Rattle.paper.specs.Answers.{ok, refused, Ran, in_list, in_entry}
use Rattle.paper.specs.Tokens.{bytes}
use Rattle.paper.specs.Keys.{required_key}
use Rattle.paper.specs.Entry.{match_record}
use Rattle.paper.specs.Calls.{check_answer, judge_answer, translate_answer, translate_buffer, load_answer, run_answer}
use Rattle.paper.specs.Explained.{Reason, at_key, nothing_to_show, explain_answer}
use Rattle.paper.specs.Named.{Summary, summary_answer}
use Rattle.paper.specs.Rechecking.{Rechecked, reused, judged, recheck_answer}
use Rattle.tried.specs.MarkedJudgements.{the_keys, the_entry}
use Rattle.tried.specs.CaseFour.{the_block}
use Rattle.tried.specs.Examples.{Example, on, Agree, On}

abbrev pub all_required : List ℕ
all_required =
    required_key (bytes "v") 0 1
    ++ required_key (bytes "d") 1 8
    ++ required_key (bytes "p") 2 8
    ++ required_key (bytes "r") 3 16
    ++ required_key (bytes "o") 4 4

-- the marked keys with 2 in byte 3 of o, the last
abbrev pub flag_two : List ℕ
flag_two = take 323 the_keys ++ (2 ∷ drop 324 the_keys)

-- the marked entry with o present: value 0 with mask 0
abbrev pub spelled : List ℕ
spelled = take 148 the_entry ++ match_record 1 0 0 0

abbrev pub case_four : List ℕ
case_four = bytes "v == 1"

-- "its absence is number 20", for every call that has an entry; the lists differ, the text and the entries do not

abbrev pub judgements : List (On Bool)
judgements = on the_entry (refused 20 in_entry 148) ∷ on spelled (ok true) ∷ []

abbrev pub runs : List (On Ran)
runs = on the_entry (refused 20 in_entry 148) ∷ on spelled (ok (record { accepted = true; steps = 4 })) ∷ []

abbrev pub reasons : List (Example (List ℕ) Reason)
reasons = on the_entry (at_key 148 4 (record { from = 336; to = 337 })) ∷ on spelled (nothing_to_show (ok true)) ∷ []

-- a recheck reuses no answer for an entry that lacks the key, or that took one's place; of a text that does not name it
abbrev pub rechecks : List ℕ → List ℕ → Rechecked
rechecks old new = recheck_answer case_four all_required old (ok true) new

abbrev pub from_spelled : List (Example (List ℕ) Rechecked)
from_spelled = on the_entry (judged (refused 20 in_entry 148)) ∷ on spelled (reused (ok true)) ∷ []

abbrev pub from_absent : List (Example (List ℕ) Rechecked)
from_absent = on the_entry (judged (refused 20 in_entry 148)) ∷ on spelled (judged (ok true)) ∷ []

-- a flag is no part of a block, and none of a summary: what was made without flags serves with them. "Other values are number 3"

abbrev pub checks : List (On (Unit {0}))
checks = on the_keys (ok tt) ∷ on all_required (ok tt) ∷ on flag_two (refused 3 in_list 320) ∷ []

abbrev pub loads : List (On ℕ)
loads = on the_keys (ok 4) ∷ on all_required (ok 4) ∷ on flag_two (refused 3 in_list 320) ∷ []

abbrev pub summaries : List (On Summary)
summaries =
    on the_keys (ok (record { keys = 1; priority = false }))
    ∷ on all_required (ok (record { keys = 1; priority = false }))
    ∷ on flag_two (refused 3 in_list 320)
    ∷ []

abbrev pub blocks : List (Example (List ℕ) (List ℕ))
blocks = on the_keys the_block ∷ on all_required the_block ∷ on flag_two (replicate 512 0xAA) ∷ []

pub record RequiredExamples : Type 0 where
  pub of_judging : Agree (judge_answer case_four all_required) judgements
  pub of_running : Agree (run_answer all_required the_block) runs
  pub of_explaining : Agree (explain_answer case_four all_required) reasons
  pub of_rechecking : Agree (rechecks spelled) from_spelled
  pub of_rechecking_absent : Agree (rechecks the_entry) from_absent
  pub of_checking : Agree (check_answer case_four) checks
  pub of_loading : Agree (λ list. load_answer list the_block) loads
  pub of_translating : Agree (λ list. translate_answer case_four list (replicate 512 0xAA)) loads
  pub of_blocks : Agree (λ list. translate_buffer case_four list (replicate 512 0xAA)) blocks
  pub of_summaries : Agree (summary_answer case_four) summaries
