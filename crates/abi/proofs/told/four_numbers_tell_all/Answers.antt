-- Two answers that are told by the same four numbers are read back as one; and so are two reasons: a piece that is shown has a byte, and a
-- part's number is not 0. A summary's mark is a bit, and so is whether a judgement was reused.
use Prim.Native.Nat.{ℕ, ◌+◌, ◌-◌, ◌≤◌}
use native.Mathlib.Omega.{arith}
use mathlib.Core.Path.{◌≡◌, refl, sym, ap}
use mathlib.Core.Bool.{Bool, true, false}
use mathlib.Core.List.{List}
use lib.Dec.{eqb}
use borrow.Author.Tests.{ne_eqb}
use Rattle.paper.specs.Answers.{Answer, ok, refused, Input, in_text, in_list, in_entry, in_blocks, in_buffer, in_contract, in_table, Ran, judgement_says}
use Rattle.paper.specs.declared.Explanation.{Explanation}
use Rattle.paper.specs.declared.Explanation.TheVariants as X
use Rattle.paper.specs.Parts.{Stretch}
use Rattle.paper.specs.Explained.{in_part, nothing_to_show, key_index, stretch_from, explanation_says}
use Rattle.paper.specs.ExplainedRight.{Explains, names_part}
use Rattle.paper.specs.Code.{bit}
use Rattle.paper.specs.Named.{Summary}
use Rattle.paper.specs.Rechecking as R
use Rattle.paper.specs.Rechecking.{Rechecked, reused}
use Rattle.paper.specs.Counting.{Totals}
use Rattle.paper.specs.RunAll.{AllRan}
use Rattle.paper.specs.Promised.{ExplainPromised}
use Rattle.paper.proofs.ExplainedRight.{explained_is_right, pieces_in_inputs}
use Rattle.abi.specs.declared.answer.PolluxAnswer.{PolluxAnswer}
use Rattle.abi.specs.Told.{turned_away, told, judged, ran, compared, reasoned, summarized, rechecked, tallied, ran_through, verdict_after, agreeing, done, heard, heard_judged, ran_in, heard_ran, heard_compared, heard_reason, heard_summary, heard_recheck, heard_counts, heard_table, TellsAll}
use Rattle.abi.proofs.told.four_numbers_tell_all.Goals as goal

-- a refusal is read back whatever else an answer may say
refusal_heard : {A : Type 0} (means : PolluxAnswer → A) (n : ℕ) (i : Input) (at : ℕ) → heard means (turned_away n i at) ≡ refused n i at
refusal_heard means n in_text at = refl
refusal_heard means n in_list at = refl
refusal_heard means n in_entry at = refl
refusal_heard means n in_blocks at = refl
refusal_heard means n in_buffer at = refl
refusal_heard means n in_contract at = refl
refusal_heard means n in_table at = refl

-- and so is every answer, where what is said of a good one is
all_heard : {A : Type 0} (means : PolluxAnswer → A) (say : A → PolluxAnswer) → ((a : A) → heard means (say a) ≡ ok a)
    → (x : Answer A) → heard means (told say x) ≡ x
all_heard means say good (ok a) = good a
all_heard means say good (refused n i at) = refusal_heard means n i at

-- a verdict, whatever steps it took, and these with it
verdict_heard : (steps : ℕ) (b : Bool) → heard_judged (verdict_after steps b) ≡ ok b
verdict_heard steps true = refl
verdict_heard steps false = refl

judged_heard : (x : Answer Bool) → heard_judged (judged x) ≡ x
judged_heard = all_heard (λ p. eqb p.says 1) (verdict_after 0) (verdict_heard 0)

steps_heard : (steps : ℕ) (b : Bool) → heard_ran (verdict_after steps b) ≡ ok (record { accepted = b; steps = steps })
steps_heard steps true = refl
steps_heard steps false = refl

run_heard : (x : Answer Ran) → heard_ran (ran x) ≡ x
run_heard = all_heard ran_in (λ r. verdict_after r.steps r.accepted) (λ r. steps_heard r.steps r.accepted)

-- whether blocks agree
agreeing_heard : (b : Bool) → heard_compared (agreeing b) ≡ ok b
agreeing_heard true = refl
agreeing_heard false = refl

compared_heard : (x : Answer Bool) → heard_compared (compared x) ≡ x
compared_heard = all_heard (λ p. eqb p.says 4) agreeing agreeing_heard

-- a reason
numbered : (text list entry : List ℕ) (n at : ℕ) (s : Stretch) → Explains text list entry (in_part n at s) → 1 ≤ n
numbered text list entry n at s (names_part j f) = omega arith

reason_heard : (text list entry : List ℕ) → (r : Explanation) → ExplainPromised text list entry r → heard_reason (reasoned (explanation_says r)) ≡ explanation_says r
reason_heard text list entry (X.Part n at from to) p =
    let lies = pieces_in_inputs.of_part text list entry n at (stretch_from from to) (sym p) in
    let one = numbered text list entry n at (stretch_from from to) ((explained_is_right text list entry (in_part n at (stretch_from from to))).0 (sym p)) in
    let some : eqb (to - from) 0 ≡ false = ne_eqb (to - from) 0 (λ e. omega (arith, e, lies.stretch.some)) in
    let first : eqb n 0 ≡ false = ne_eqb n 0 (λ e. omega (arith, e, one)) in
    let end : from + (to - from) ≡ to = omega (arith, lies.stretch.some) in
    rw (some, first, end)
reason_heard text list entry (X.Key at from to) p =
    let lies = pieces_in_inputs.of_key text list entry at (key_index at) (stretch_from from to) (sym p) in
    let some : eqb (to - from) 0 ≡ false = ne_eqb (to - from) 0 (λ e. omega (arith, e, lies.stretch.some)) in
    let end : from + (to - from) ≡ to = omega (arith, lies.stretch.some) in
    rw (some, end)
reason_heard text list entry (X.Nothing j) p = ap nothing_to_show (judged_heard (judgement_says j))

-- a summary, and a recheck
bit_heard : (b : Bool) → eqb (bit b) 1 ≡ b
bit_heard true = refl
bit_heard false = refl

summary_heard : (x : Answer Summary) → heard_summary (summarized x) ≡ x
summary_heard (ok s) = rw (bit_heard s.priority)
summary_heard (refused n i at) = refusal_heard (λ _. record { keys = 0; priority = false }) n i at

recheck_heard : (x : Rechecked) → heard_recheck (rechecked x) ≡ x
recheck_heard (reused a) = ap reused (judged_heard a)
recheck_heard (R.judged a) = ap R.judged (judged_heard a)

-- a count
counts_heard : (x : Answer Totals) → heard_counts (tallied x) ≡ x
counts_heard (ok t) = refl
counts_heard (refused n i at) = refusal_heard (λ a. record { parts = a.value; accepted = 0; violated = 0; refused = 0; cut = 0 }) n i at

-- a table that ran
table_heard : (x : Answer AllRan) → heard_table (ran_through x) ≡ x
table_heard (ok t) = refl
table_heard (refused n i at) = refusal_heard (λ a. record { entries = a.value; steps = 0 }) n i at

tells_all : TellsAll
tells_all =
    record {
      counts = all_heard (λ p. p.value) done (λ _. refl);
      passes = all_heard (λ _. tt) (λ _. done 0) (λ _. refl);
      verdicts = judged_heard;
      runs = run_heard;
      agreements = compared_heard;
      reasons = reason_heard;
      summaries = summary_heard;
      rechecks = recheck_heard;
      tallies = counts_heard;
      tables = table_heard;
    }

pub returns : goal.returns
returns c = tells_all
