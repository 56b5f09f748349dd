-- An answer of the paper as four numbers: what it says (0 refused, 1 accepted, 2 violated, 3 passed, read, written, loaded, printed, fixed,
-- drafted, counted or ran through, 4 agrees, 5 differs), the refusal's number or 0, its input (0 none, 1 text, 2 list, 3 entry, 4 blocks, 5 buffer, 6 contract,
-- 7 table), and the offset, or the count, or the steps, or 0.
--
-- A reason as eight: the four of the judgement, and the number of the part that is shown, or 0; the place of its root in the text, or of the
-- key's record in the entry; and the start and length of its stretch of the text, or of the name in the list. Where nothing is shown these are 0.
--
-- A summary as seven: four as of a check, and the set of the keys, 1 if it has the mark or 0, and the count of the keys; a refused one has none.
-- A recheck as five: the four of the judgement, and 1 if that was reused or 0.
--
-- A count as eight: four of which the count is that of the parts, and how many entries are accepted, violated and refused, and the bytes of a cut
-- one; a refused one has none. The number of each part stands in the numbers that are lent.
--
-- A table that ran as five: four of which the count is that of its entries, and the steps of all of them; a refused one has none. The byte of each
-- entry stands in the answers that are lent.
use Rattle.std.specs.Prelude.{ℕ, ◌+◌, ◌-◌, ◌≤◌, ◌≡◌, ◌≢◌, Bool, true, false, cond, eqb, List, Ok, Err}
use Rattle.paper.specs.declared.Verdict.TheVariants.{Accepted, Violated}
use Rattle.std.specs.Int.Count.{ones}
use Rattle.paper.specs.Answers.{Answer, ok, refused, Input, in_text, in_list, in_entry, in_blocks, in_buffer, in_contract, in_table, Ran, says, judgement_says, running_says, Judgement}
use Rattle.paper.specs.Code.{bit}
use Rattle.paper.specs.Explained.{Reason, in_part, at_key, nothing_to_show, key_index, stretch_from, explanation_says}
use Rattle.paper.specs.ExplainedRight.{judgement_of}
use Rattle.paper.specs.Named.{Summary, summarizing_says}
use Rattle.paper.specs.Rechecking.{Rechecked, reused, rechecking_says}
use Rattle.paper.specs.Rechecking as Rechecking
use Rattle.paper.specs.Comparing.{agreement_says}
use Rattle.paper.specs.Counting.{Totals, counting_says}
use Rattle.paper.specs.RunAll.{AllRan, running_all_says}
use Rattle.paper.specs.Promised.{ReadPromised, CheckPromised, JudgePromised, TranslateResult, TranslatePromised, LoadPromised, RunPromised, RunAllPromised, PrintPromised, FixPromised, DraftPromised, ComparePromised, CountPromised, ExplainPromised, SummarizePromised, RecheckPromised, Sole}
use Rattle.paper.specs.declared.Explanation.{Explanation}
use Rattle.abi.specs.declared.answer.PolluxAnswer.{PolluxAnswer}
use Rattle.abi.specs.declared.reason.PolluxReason.{PolluxReason}
use Rattle.abi.specs.declared.summary.PolluxSummary.{PolluxSummary}
use Rattle.abi.specs.declared.recheck.PolluxRechecked.{PolluxRechecked}
use Rattle.abi.specs.declared.counts.PolluxCounts.{PolluxCounts}
use Rattle.abi.specs.declared.table.PolluxTable.{PolluxTable}
use Rattle.abi.specs.Heard.{no_answer, heard_as}

abbrev pub input_no : Input → ℕ
input_no in_text = 1
input_no in_list = 2
input_no in_entry = 3
input_no in_blocks = 4
input_no in_buffer = 5
input_no in_contract = 6
input_no in_table = 7

abbrev pub done : ℕ → PolluxAnswer
done n = record { says = 3; number = 0; input = 0; value = n }

abbrev pub turned_away : ℕ → Input → ℕ → PolluxAnswer
turned_away n i at = record { says = 0; number = n; input = input_no i; value = at }

abbrev pub told : {A : Type 0} → (A → PolluxAnswer) → Answer A → PolluxAnswer
told say (ok a) = say a
told say (refused n i at) = turned_away n i at

abbrev pub counted : Answer ℕ → PolluxAnswer
counted = told done

abbrev pub passed : Answer (Unit {0}) → PolluxAnswer
passed = told (λ _. done 0)

-- a verdict, after so many steps
abbrev pub verdict_after : ℕ → Bool → PolluxAnswer
verdict_after steps true = record { says = 1; number = 0; input = 0; value = steps }
verdict_after steps false = record { says = 2; number = 0; input = 0; value = steps }

-- a judgement from the text takes none
abbrev pub judged : Answer Bool → PolluxAnswer
judged = told (verdict_after 0)

abbrev pub ran : Answer Ran → PolluxAnswer
ran = told (λ r. verdict_after r.steps r.accepted)

-- whether blocks agree with a text
abbrev pub agreeing : Bool → PolluxAnswer
agreeing true = record { says = 4; number = 0; input = 0; value = 0 }
agreeing false = record { says = 5; number = 0; input = 0; value = 0 }

abbrev pub compared : Answer Bool → PolluxAnswer
compared = told agreeing

-- what is shown, beside the judgement

abbrev pub showing : PolluxAnswer → ℕ → ℕ → ℕ → ℕ → PolluxReason
showing a part place start length =
    record {
      says = a.says;
      number = a.number;
      input = a.input;
      value = a.value;
      part = part;
      place = place;
      start = start;
      length = length;
    }

abbrev pub reasoned : Reason → PolluxReason
reasoned (in_part n at s) = showing (judged (judgement_of (in_part n at s))) n at s.from (s.to - s.from)
reasoned (at_key at k s) = showing (judged (judgement_of (at_key at k s))) 0 at s.from (s.to - s.from)
reasoned (nothing_to_show a) = showing (judged a) 0 0 0 0

-- what is named, beside the answer of a check

abbrev pub naming : PolluxAnswer → ℕ → ℕ → ℕ → PolluxSummary
naming a keys priority count =
    record {
      says = a.says;
      number = a.number;
      input = a.input;
      value = a.value;
      keys = keys;
      priority = priority;
      count = count;
    }

abbrev pub summarized : Answer Summary → PolluxSummary
summarized (ok s) = naming (done 0) s.keys (bit s.priority) (ones s.keys)
summarized (refused n i at) = naming (turned_away n i at) 0 0 0

-- whether it was reused, beside the judgement

abbrev pub saying : PolluxAnswer → ℕ → PolluxRechecked
saying a again = record { says = a.says; number = a.number; input = a.input; value = a.value; reused = again }

abbrev pub rechecked : Rechecked → PolluxRechecked
rechecked (reused a) = saying (judged a) 1
rechecked (Rechecking.judged a) = saying (judged a) 0

-- how many entries, beside the answer with the count of the parts

abbrev pub totals : PolluxAnswer → ℕ → ℕ → ℕ → ℕ → PolluxCounts
totals a accepted violated refusals cut =
    record {
      says = a.says;
      number = a.number;
      input = a.input;
      value = a.value;
      accepted = accepted;
      violated = violated;
      refused = refusals;
      cut = cut;
    }

abbrev pub tallied : Answer Totals → PolluxCounts
tallied (ok t) = totals (done t.parts) t.accepted t.violated t.refused t.cut
tallied (refused n i at) = totals (turned_away n i at) 0 0 0 0

-- the steps, beside the answer with the count of the entries

abbrev pub stepping : PolluxAnswer → ℕ → PolluxTable
stepping a steps = record { says = a.says; number = a.number; input = a.input; value = a.value; steps = steps }

abbrev pub ran_through : Answer AllRan → PolluxTable
ran_through (ok t) = stepping (done t.entries) t.steps
ran_through (refused n i at) = stepping (turned_away n i at) 0

-- What C is told by a call: numbers that stand for a result that keeps the call's promise.
pub record Tells {R N : Type 0} (Promised : R → Type 0) (numbers : R → N) (a : N) : Type 0 where
  pub result : R
  pub promised : Promised result
  pub same : a ≡ numbers result

abbrev pub ReadTold : List ℕ → PolluxAnswer → Type 0
ReadTold text = Tells (ReadPromised text) (λ r. counted (says r))

abbrev pub CheckTold : List ℕ → List ℕ → PolluxAnswer → Type 0
CheckTold text list = Tells (CheckPromised text list) (λ r. passed (says r))

abbrev pub JudgeTold : List ℕ → List ℕ → List ℕ → PolluxAnswer → Type 0
JudgeTold text list entry = Tells (JudgePromised text list entry) (λ r. judged (judgement_says r))

-- with what the buffer holds at exit
abbrev pub TranslateTold : List ℕ → List ℕ → List ℕ → List ℕ → PolluxAnswer → Type 0
TranslateTold text list buffer exit =
    Tells (λ r. TranslatePromised text list buffer (record { answer = r; buffer = exit })) (λ r. counted (says r))

abbrev pub LoadTold : List ℕ → List ℕ → PolluxAnswer → Type 0
LoadTold list blocks = Tells (LoadPromised list blocks) (λ r. counted (says r))

abbrev pub RunTold : List ℕ → List ℕ → List ℕ → PolluxAnswer → Type 0
RunTold list blocks entry = Tells (RunPromised list blocks entry) (λ r. ran (running_says r))

-- with what the answers are at exit
abbrev pub RunAllTold : List ℕ → List ℕ → List ℕ → List ℕ → List ℕ → PolluxTable → Type 0
RunAllTold list blocks entries answers exit =
    Tells (λ r. RunAllPromised list blocks entries answers (record { answer = r; bytes = exit })) (λ r. ran_through (running_all_says r))

-- with what the buffer holds at exit
abbrev pub PrintTold : List ℕ → List ℕ → List ℕ → PolluxAnswer → Type 0
PrintTold text buffer exit = Tells (λ r. PrintPromised text buffer (record { answer = r; buffer = exit })) (λ r. counted (says r))

-- with what the buffer holds at exit
abbrev pub FixTold : List ℕ → List ℕ → List ℕ → PolluxAnswer → Type 0
FixTold text buffer exit = Tells (λ r. FixPromised text buffer (record { answer = r; buffer = exit })) (λ r. counted (says r))

-- with what the buffer holds at exit
abbrev pub DraftTold : List ℕ → List ℕ → List ℕ → List ℕ → List ℕ → PolluxAnswer → Type 0
DraftTold contract table list buffer exit =
    Tells (λ r. DraftPromised contract table list buffer (record { answer = r; buffer = exit })) (λ r. counted (says r))

abbrev pub CompareTold : List ℕ → List ℕ → List ℕ → PolluxAnswer → Type 0
CompareTold text list blocks = Tells (ComparePromised text list blocks) (λ r. compared (agreement_says r))

-- with what the numbers for the parts are at exit
abbrev pub CountTold : List ℕ → List ℕ → List ℕ → List ℕ → List ℕ → PolluxCounts → Type 0
CountTold text list entries numbers exit =
    Tells (λ r. CountPromised text list entries numbers (record { answer = r; numbers = exit })) (λ r. tallied (counting_says r))

abbrev pub ExplainTold : List ℕ → List ℕ → List ℕ → PolluxReason → Type 0
ExplainTold text list entry = Tells (ExplainPromised text list entry) (λ r. reasoned (explanation_says r))

abbrev pub SummarizeTold : List ℕ → List ℕ → PolluxSummary → Type 0
SummarizeTold text list = Tells (SummarizePromised text list) (λ r. summarized (summarizing_says r))

-- with the judgement that C means by four numbers
abbrev pub RecheckTold : List ℕ → List ℕ → List ℕ → PolluxAnswer → List ℕ → PolluxRechecked → Type 0
RecheckTold text list old earlier new = Tells (RecheckPromised text list old (heard_as earlier) new) (λ r. rechecked (rechecking_says r))

-- so for all inputs C is told one thing, and no second; of `translate`, `print`, `fix_octal` and `pact`, one answer with one buffer at exit, of
-- `run_all` one with one list of answers, and of `count` one with one list of numbers
pub record OneAnswerForC : Type 0 where
  pub read : (text : List ℕ) → Sole (ReadTold text)
  pub check : (text list : List ℕ) → Sole (CheckTold text list)
  pub judge : (text list entry : List ℕ) → Sole (JudgeTold text list entry)
  pub translate : (text list buffer exit other : List ℕ) (a b : PolluxAnswer) → TranslateTold text list buffer exit a
      → TranslateTold text list buffer other b → (a ≡ b) × (exit ≡ other)
  pub load : (list blocks : List ℕ) → Sole (LoadTold list blocks)
  pub run : (list blocks entry : List ℕ) → Sole (RunTold list blocks entry)
  pub run_all : (list blocks entries answers exit other : List ℕ) (a b : PolluxTable) → RunAllTold list blocks entries answers exit a
      → RunAllTold list blocks entries answers other b → (a ≡ b) × (exit ≡ other)
  pub print : (text buffer exit other : List ℕ) (a b : PolluxAnswer) → PrintTold text buffer exit a → PrintTold text buffer other b
      → (a ≡ b) × (exit ≡ other)
  pub fix : (text buffer exit other : List ℕ) (a b : PolluxAnswer) → FixTold text buffer exit a → FixTold text buffer other b
      → (a ≡ b) × (exit ≡ other)
  pub draft : (contract table list buffer exit other : List ℕ) (a b : PolluxAnswer) → DraftTold contract table list buffer exit a
      → DraftTold contract table list buffer other b → (a ≡ b) × (exit ≡ other)
  pub compare : (text list blocks : List ℕ) → Sole (CompareTold text list blocks)
  pub count : (text list entries numbers exit other : List ℕ) (a b : PolluxCounts) → CountTold text list entries numbers exit a
      → CountTold text list entries numbers other b → (a ≡ b) × (exit ≡ other)
  pub explain : (text list entry : List ℕ) → Sole (ExplainTold text list entry)
  pub summarize : (text list : List ℕ) → Sole (SummarizeTold text list)
  pub recheck : (text list old : List ℕ) (earlier : PolluxAnswer) (new : List ℕ) → Sole (RecheckTold text list old earlier new)

-- the way back, by which a caller reads an answer

abbrev pub input_from : ℕ → Input
input_from n =
    cond (eqb n 1) in_text
    (cond (eqb n 2) in_list
    (cond (eqb n 3) in_entry (cond (eqb n 4) in_blocks (cond (eqb n 5) in_buffer (cond (eqb n 6) in_contract in_table)))))

abbrev pub heard : {A : Type 0} → (PolluxAnswer → A) → PolluxAnswer → Answer A
heard means p = cond (eqb p.says 0) (refused p.number (input_from p.input) p.value) (ok (means p))

abbrev pub heard_judged : PolluxAnswer → Answer Bool
heard_judged = heard (λ p. eqb p.says 1)

abbrev pub ran_in : PolluxAnswer → Ran
ran_in p = record { accepted = eqb p.says 1; steps = p.value }

abbrev pub heard_ran : PolluxAnswer → Answer Ran
heard_ran = heard ran_in

abbrev pub heard_compared : PolluxAnswer → Answer Bool
heard_compared = heard (λ p. eqb p.says 4)

abbrev pub answer_in : PolluxReason → PolluxAnswer
answer_in p = record { says = p.says; number = p.number; input = p.input; value = p.value }

-- what is shown has a byte, and a part's number is not 0
abbrev pub heard_reason : PolluxReason → Reason
heard_reason p =
    let stretch = stretch_from p.start (p.start + p.length) in
    cond (eqb p.length 0) (nothing_to_show (heard_judged (answer_in p)))
    (cond (eqb p.part 0) (at_key p.place (key_index p.place) stretch) (in_part p.part p.place stretch))

abbrev pub heard_summary : PolluxSummary → Answer Summary
heard_summary p =
    heard (λ _. record { keys = p.keys; priority = eqb p.priority 1 })
    (record { says = p.says; number = p.number; input = p.input; value = p.value })

abbrev pub heard_recheck : PolluxRechecked → Rechecked
heard_recheck p =
    let judgement = heard_judged (record { says = p.says; number = p.number; input = p.input; value = p.value }) in
    cond (eqb p.reused 1) (reused judgement) (Rechecking.judged judgement)

abbrev pub heard_counts : PolluxCounts → Answer Totals
heard_counts p =
    heard (λ a. record { parts = a.value; accepted = p.accepted; violated = p.violated; refused = p.refused; cut = p.cut })
    (record { says = p.says; number = p.number; input = p.input; value = p.value })

abbrev pub heard_table : PolluxTable → Answer AllRan
heard_table p =
    heard (λ a. record { entries = a.value; steps = p.steps })
    (record { says = p.says; number = p.number; input = p.input; value = p.value })

-- a refusal's number is a byte, in the code and so in what it tells
abbrev pub Numbered : Judgement → Type 0
Numbered (Ok Accepted) = Unit {0}
Numbered (Ok Violated) = Unit {0}
Numbered (Err v) = v.number ≤ 255

pub record TellsAll : Type 0 where
  pub counts : (x : Answer ℕ) → heard (λ p. p.value) (counted x) ≡ x
  pub passes : (x : Answer (Unit {0})) → heard (λ _. tt) (passed x) ≡ x
  pub verdicts : (x : Answer Bool) → heard_judged (judged x) ≡ x
  pub runs : (x : Answer Ran) → heard_ran (ran x) ≡ x
  pub agreements : (x : Answer Bool) → heard_compared (compared x) ≡ x
  pub reasons : (text list entry : List ℕ) (r : Explanation) → ExplainPromised text list entry r
      → heard_reason (reasoned (explanation_says r)) ≡ explanation_says r
  pub summaries : (x : Answer Summary) → heard_summary (summarized x) ≡ x
  pub rechecks : (x : Rechecked) → heard_recheck (rechecked x) ≡ x
  pub tallies : (x : Answer Totals) → heard_counts (tallied x) ≡ x
  pub tables : (x : Answer AllRan) → heard_table (ran_through x) ≡ x

-- an earlier judgement, handed in by its four numbers, is heard as it was told; and any other numbers as refused with 20 at entry 0
pub record EarlierHeard : Type 0 where
  pub as_told : (j : Judgement) → Numbered j → heard_as (judged (judgement_says j)) ≡ j
  pub or_none : (p : PolluxAnswer) → ((j : Judgement) → Numbered j → p ≢ judged (judgement_says j)) → heard_as p ≡ no_answer

-- a reason's first four numbers are those of the judgement
abbrev pub ReasonsAsJudged : Type 0
ReasonsAsJudged =
    (text list entry : List ℕ) (r : PolluxReason) (a : PolluxAnswer) → ExplainTold text list entry r → JudgeTold text list entry a
    → answer_in r ≡ a
