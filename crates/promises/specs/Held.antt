-- Demand 3 for one text, list, entry and buffer, of what the real calls answered.
use Rattle.std.specs.Prelude.{ℕ, ◌≡◌, List, Result, Ok, Err}
use Rattle.paper.specs.declared.Refusal.{Refusal}
use Rattle.paper.specs.declared.Ended.{Ended}
use Rattle.paper.specs.declared.RanAll.{RanAll}
use Rattle.paper.specs.declared.Counted.{Counted}
use Rattle.paper.specs.Answers.{running_says, Judgement}
use Rattle.paper.specs.TranslationCorrect.{judged_in_steps}
use Rattle.paper.specs.Promised.{judgement_of_run, JudgePromised, TranslateResult, TranslatePromised, LoadPromised, RunPromised, PrintResult, FixResult, DraftResult, CountResult, RunAllResult}
use Rattle.paper.specs.Demands.{TranslateAnswered, blocks_written, Carried}
use Rattle.promises.specs.declared.calls.Carrying.{Carrying}

-- an answer of `translate`, and what the buffer holds at its exit
abbrev pub gave : Result ℕ Refusal → List ℕ → TranslateResult
gave r exit = record { answer = r; buffer = exit }

-- the same of `print`
abbrev pub lent : Result ℕ Refusal → List ℕ → PrintResult
lent r exit = record { answer = r; buffer = exit }

-- and of `fix_octal`
abbrev pub fixed_to : Result ℕ Refusal → List ℕ → FixResult
fixed_to r exit = record { answer = r; buffer = exit }

-- and of `pact`
abbrev pub drafted_to : Result ℕ Refusal → List ℕ → DraftResult
drafted_to r exit = record { answer = r; buffer = exit }

-- an answer of `count`, and what the numbers of the parts are at its exit
abbrev pub counted_to : Result Counted Refusal → List ℕ → CountResult
counted_to r exit = record { answer = r; numbers = exit }

-- an answer of `run_all`, and what the answers are at its exit
abbrev pub ran_over : Result RanAll Refusal → List ℕ → RunAllResult
ran_over r exit = record { answer = r; bytes = exit }

-- each answer keeps its call's promise; the blocks load with the number returned, and say of the entry what the text says, in the steps that
-- are counted over its tree
pub record Held (text list entry buffer exit : List ℕ) (n : ℕ) (loaded : Result ℕ Refusal) (ran : Result Ended Refusal) (judged : Judgement) : Type 0 where
  pub translate : TranslatePromised text list buffer (gave (Ok n) exit)
  pub load : LoadPromised list (blocks_written n exit) loaded
  pub run : RunPromised list (blocks_written n exit) entry ran
  pub judge : JudgePromised text list entry judged
  pub carried : Carried buffer exit n loaded
  pub alike : judgement_of_run ran ≡ judged
  pub steps : running_says ran ≡ judged_in_steps text list entry

abbrev pub Carries : List ℕ → List ℕ → List ℕ → List ℕ → List ℕ → Result Carrying Refusal → Type 0
Carries text list entry buffer exit (Ok c) = Held text list entry buffer exit c.written c.loaded c.ran c.judged
Carries text list entry buffer exit (Err v) = TranslateAnswered text list buffer (gave (Err v) exit)
