-- 01, "Holding the promises to account": "Each public function states its result in full for all inputs, and what each lent byte
-- holds afterwards, refused calls included. .. Show that no second result satisfies it".
use Rattle.std.specs.Prelude.{ℕ, ◌^◌, ◌<◌, ◌≡◌, Bool, true, false, List, length, Result, Ok, Err}
use Rattle.paper.specs.declared.Verdict.{Verdict}
use Rattle.paper.specs.declared.Refusal.{Refusal}
use Rattle.paper.specs.declared.Ended.{Ended}
use Rattle.paper.specs.declared.RanAll.{RanAll}
use Rattle.paper.specs.declared.Counted.{Counted}
use Rattle.paper.specs.declared.Summary.{Summary}
use Rattle.paper.specs.declared.Agreement.{Agreement}
use Rattle.paper.specs.declared.Verdict.TheVariants.{Accepted, Violated}
use Rattle.paper.specs.declared.Explanation.{Explanation}
use Rattle.paper.specs.declared.Rechecking.{Rechecking}
use Rattle.paper.specs.Answers.{says, judgement_says, running_says, refusal, Judgement, ended}
use Rattle.paper.specs.BlocksRoundTrip.{All}
use Rattle.paper.specs.Parts.{most_parts}
use Rattle.paper.specs.Explained.{explain_answer, explanation_says}
use Rattle.paper.specs.Named.{summary_answer, summarizing_says}
use Rattle.paper.specs.Rechecking.{recheck_answer, rechecking_says}
use Rattle.paper.specs.Fixing.{fix_answer, fix_buffer}
use Rattle.paper.specs.Drafting.{draft_answer, draft_buffer}
use Rattle.paper.specs.Comparing.{compare_answer, agreement_says}
use Rattle.paper.specs.Counting.{count_answer, count_numbers, counting_says}
use Rattle.paper.specs.RunAll.{run_all_answer, run_all_bytes, running_all_says}
use Rattle.paper.specs.Calls.{read_answer, check_answer, judge_answer, translate_answer, translate_buffer, load_answer, run_answer, print_answer, print_buffer}

-- what is promised of the result of each call, for the bytes that are lent to it

abbrev pub ReadPromised : List ℕ → Result ℕ Refusal → Type 0
ReadPromised text r = says r ≡ read_answer text

abbrev pub CheckPromised : List ℕ → List ℕ → Result (Unit {0}) Refusal → Type 0
CheckPromised text list r = says r ≡ check_answer text list

abbrev pub JudgePromised : List ℕ → List ℕ → List ℕ → Judgement → Type 0
JudgePromised text list entry r = judgement_says r ≡ judge_answer text list entry

-- what `translate` returns, and what the buffer holds at its exit
pub record TranslateResult : Type 0 where
  pub answer : Result ℕ Refusal
  pub buffer : List ℕ

pub record TranslatePromised (text list buffer : List ℕ) (r : TranslateResult) : Type 0 where
  pub says : says r.answer ≡ translate_answer text list buffer
  pub holds : r.buffer ≡ translate_buffer text list buffer

abbrev pub LoadPromised : List ℕ → List ℕ → Result ℕ Refusal → Type 0
LoadPromised list blocks r = says r ≡ load_answer list blocks

abbrev pub RunPromised : List ℕ → List ℕ → List ℕ → Result Ended Refusal → Type 0
RunPromised list blocks entry r = running_says r ≡ run_answer list blocks entry

-- what `print` returns, and what the buffer holds at its exit
pub record PrintResult : Type 0 where
  pub answer : Result ℕ Refusal
  pub buffer : List ℕ

pub record PrintPromised (text buffer : List ℕ) (r : PrintResult) : Type 0 where
  pub says : says r.answer ≡ print_answer text buffer
  pub holds : r.buffer ≡ print_buffer text buffer

-- what `fix_octal` returns, and what the buffer holds at its exit
pub record FixResult : Type 0 where
  pub answer : Result ℕ Refusal
  pub buffer : List ℕ

pub record FixPromised (text buffer : List ℕ) (r : FixResult) : Type 0 where
  pub says : says r.answer ≡ fix_answer text buffer
  pub holds : r.buffer ≡ fix_buffer text buffer

-- what `pact` returns, and what the buffer holds at its exit
pub record DraftResult : Type 0 where
  pub answer : Result ℕ Refusal
  pub buffer : List ℕ

pub record DraftPromised (contract table list buffer : List ℕ) (r : DraftResult) : Type 0 where
  pub says : says r.answer ≡ draft_answer contract table list buffer
  pub holds : r.buffer ≡ draft_buffer contract table list buffer

abbrev pub ComparePromised : List ℕ → List ℕ → List ℕ → Result Agreement Refusal → Type 0
ComparePromised text list blocks r = agreement_says r ≡ compare_answer text list blocks

-- what `count` returns, and what the numbers that are lent to it are at its exit
pub record CountResult : Type 0 where
  pub answer : Result Counted Refusal
  pub numbers : List ℕ

pub record CountPromised (text list entries numbers : List ℕ) (r : CountResult) : Type 0 where
  pub says : counting_says r.answer ≡ count_answer text list entries
  pub holds : r.numbers ≡ count_numbers text list entries numbers

-- what `run_all` returns, and what the bytes that are lent to it for its answers are at its exit
pub record RunAllResult : Type 0 where
  pub answer : Result RanAll Refusal
  pub bytes : List ℕ

pub record RunAllPromised (list blocks entries answers : List ℕ) (r : RunAllResult) : Type 0 where
  pub says : running_all_says r.answer ≡ run_all_answer list blocks entries answers
  pub holds : r.bytes ≡ run_all_bytes list blocks entries answers

-- the numbers of an explanation; its pieces, which are references, stand in Pieces
abbrev pub ExplainPromised : List ℕ → List ℕ → List ℕ → Explanation → Type 0
ExplainPromised text list entry r = explanation_says r ≡ explain_answer text list entry

abbrev pub SummarizePromised : List ℕ → List ℕ → Result Summary Refusal → Type 0
SummarizePromised text list r = summarizing_says r ≡ summary_answer text list

-- of the old entry, its earlier answer and the new entry
abbrev pub RecheckPromised : List ℕ → List ℕ → List ℕ → Judgement → List ℕ → Rechecking → Type 0
RecheckPromised text list old earlier new r = rechecking_says r ≡ recheck_answer text list old (judgement_says earlier) new

abbrev pub verdict_for : Bool → Verdict
verdict_for true = Accepted
verdict_for false = Violated

abbrev pub verdict : Bool → Judgement
verdict b = Ok (verdict_for b)

-- the verdict of a run, and so many steps
abbrev pub verdict_in : Bool → ℕ → Result Ended Refusal
verdict_in b = ended (verdict_for b)

-- a run, its steps aside
abbrev pub judgement_of_run : Result Ended Refusal → Judgement
judgement_of_run (Ok e) = Ok e.verdict
judgement_of_run (Err v) = Err v

-- one result satisfies it, and no second
pub record Sole {R : Type 0} (Promised : R → Type 0) : Type 0 where
  pub result : R
  pub satisfies : Promised result
  pub no_second : (r : R) → Promised r → r ≡ result

pub record NoSecondResult : Type 0 where
  pub read : (text : List ℕ) → Sole (ReadPromised text)
  pub check : (text list : List ℕ) → Sole (CheckPromised text list)
  pub judge : (text list entry : List ℕ) → Sole (JudgePromised text list entry)
  pub translate : (text list buffer : List ℕ) → Sole (TranslatePromised text list buffer)
  pub load : (list blocks : List ℕ) → Sole (LoadPromised list blocks)
  pub run : (list blocks entry : List ℕ) → Sole (RunPromised list blocks entry)
  pub print : (text buffer : List ℕ) → Sole (PrintPromised text buffer)
  pub explain : (text list entry : List ℕ) → Sole (ExplainPromised text list entry)
  pub summarize : (text list : List ℕ) → Sole (SummarizePromised text list)
  pub recheck : (text list old : List ℕ) (earlier : Judgement) (new : List ℕ) → Sole (RecheckPromised text list old earlier new)
  pub fix : (text buffer : List ℕ) → Sole (FixPromised text buffer)
  pub draft : (contract table list buffer : List ℕ) → Sole (DraftPromised contract table list buffer)
  pub compare : (text list blocks : List ℕ) → Sole (ComparePromised text list blocks)
  pub count : (text list entries numbers : List ℕ) → Sole (CountPromised text list entries numbers)
  pub run_all : (list blocks entries answers : List ℕ) → Sole (RunAllPromised list blocks entries answers)

-- what can be lent: numbers below 256
abbrev pub Bytes : List ℕ → Type 0
Bytes s = All (λ b. b < 256) s

-- "user numbers below 2^64"
abbrev pub UserNumbers : List ℕ → Type 0
UserNumbers table = All (λ v. v < 2 ^ 64) table

-- numbers for the parts, which are as many as a text can have
pub record PartNumbers (numbers : List ℕ) : Type 0 where
  pub many : length numbers ≡ most_parts
  pub each : All (λ n. n < 2 ^ 64) numbers

-- the calls as programs: any that return such results, and those that keep their promises on all bytes

pub record Programs : Type 0 where
  pub read : List ℕ → Result ℕ Refusal
  pub check : List ℕ → List ℕ → Result (Unit {0}) Refusal
  pub judge : List ℕ → List ℕ → List ℕ → Judgement
  pub translate : List ℕ → List ℕ → List ℕ → TranslateResult
  pub load : List ℕ → List ℕ → Result ℕ Refusal
  pub run : List ℕ → List ℕ → List ℕ → Result Ended Refusal
  pub print : List ℕ → List ℕ → PrintResult
  pub explain : List ℕ → List ℕ → List ℕ → Explanation
  pub summarize : List ℕ → List ℕ → Result Summary Refusal
  pub recheck : List ℕ → List ℕ → List ℕ → Judgement → List ℕ → Rechecking
  pub fix : List ℕ → List ℕ → FixResult
  pub draft : List ℕ → List ℕ → List ℕ → List ℕ → DraftResult
  pub compare : List ℕ → List ℕ → List ℕ → Result Agreement Refusal
  pub count : List ℕ → List ℕ → List ℕ → List ℕ → CountResult
  pub run_all : List ℕ → List ℕ → List ℕ → List ℕ → RunAllResult

abbrev pub KeepsRead : Programs → Type 0
KeepsRead p = (text : List ℕ) → Bytes text → ReadPromised text (p.read text)

abbrev pub KeepsCheck : Programs → Type 0
KeepsCheck p = (text list : List ℕ) → Bytes text → Bytes list → CheckPromised text list (p.check text list)

abbrev pub KeepsJudge : Programs → Type 0
KeepsJudge p =
    (text list entry : List ℕ) → Bytes text → Bytes list → Bytes entry → JudgePromised text list entry (p.judge text list entry)

abbrev pub KeepsTranslate : Programs → Type 0
KeepsTranslate p =
    (text list buffer : List ℕ) → Bytes text → Bytes list → Bytes buffer
    → TranslatePromised text list buffer (p.translate text list buffer)

abbrev pub KeepsLoad : Programs → Type 0
KeepsLoad p = (list blocks : List ℕ) → Bytes list → Bytes blocks → LoadPromised list blocks (p.load list blocks)

abbrev pub KeepsRun : Programs → Type 0
KeepsRun p =
    (list blocks entry : List ℕ) → Bytes list → Bytes blocks → Bytes entry → RunPromised list blocks entry (p.run list blocks entry)

abbrev pub KeepsPrint : Programs → Type 0
KeepsPrint p = (text buffer : List ℕ) → Bytes text → Bytes buffer → PrintPromised text buffer (p.print text buffer)

abbrev pub KeepsExplain : Programs → Type 0
KeepsExplain p =
    (text list entry : List ℕ) → Bytes text → Bytes list → Bytes entry → ExplainPromised text list entry (p.explain text list entry)

abbrev pub KeepsSummarize : Programs → Type 0
KeepsSummarize p = (text list : List ℕ) → Bytes text → Bytes list → SummarizePromised text list (p.summarize text list)

abbrev pub KeepsRecheck : Programs → Type 0
KeepsRecheck p =
    (text list old : List ℕ) (earlier : Judgement) (new : List ℕ) → Bytes text → Bytes list → Bytes old → Bytes new
    → RecheckPromised text list old earlier new (p.recheck text list old earlier new)

abbrev pub KeepsFix : Programs → Type 0
KeepsFix p = (text buffer : List ℕ) → Bytes text → Bytes buffer → FixPromised text buffer (p.fix text buffer)

abbrev pub KeepsDraft : Programs → Type 0
KeepsDraft p =
    (contract table list buffer : List ℕ) → Bytes contract → UserNumbers table → Bytes list → Bytes buffer
    → DraftPromised contract table list buffer (p.draft contract table list buffer)

abbrev pub KeepsCompare : Programs → Type 0
KeepsCompare p =
    (text list blocks : List ℕ) → Bytes text → Bytes list → Bytes blocks → ComparePromised text list blocks (p.compare text list blocks)

abbrev pub KeepsCount : Programs → Type 0
KeepsCount p =
    (text list entries numbers : List ℕ) → Bytes text → Bytes list → Bytes entries → PartNumbers numbers
    → CountPromised text list entries numbers (p.count text list entries numbers)

abbrev pub KeepsRunAll : Programs → Type 0
KeepsRunAll p =
    (list blocks entries answers : List ℕ) → Bytes list → Bytes blocks → Bytes entries → Bytes answers
    → RunAllPromised list blocks entries answers (p.run_all list blocks entries answers)

pub record Kept (p : Programs) : Type 0 where
  pub read : KeepsRead p
  pub check : KeepsCheck p
  pub judge : KeepsJudge p
  pub translate : KeepsTranslate p
  pub load : KeepsLoad p
  pub run : KeepsRun p
  pub print : KeepsPrint p
  pub explain : KeepsExplain p
  pub summarize : KeepsSummarize p
  pub recheck : KeepsRecheck p
  pub fix : KeepsFix p
  pub draft : KeepsDraft p
  pub compare : KeepsCompare p
  pub count : KeepsCount p
  pub run_all : KeepsRunAll p

-- there are such programs
abbrev pub CanBeKept : Type 0
CanBeKept = (p : Programs) × Kept p
