-- Each public enum has one case for each answer of the paper. So one result keeps the promise of a call, and no second.
use Prim.Native.Nat.{ℕ}
use Rattle.paper.specs.declared.Verdict.{Verdict}
use Rattle.std.specs.Prelude.{Result, Ok, Err}
use Rattle.paper.specs.declared.Refusal.{Refusal}
use Rattle.paper.specs.declared.Ended.{Ended}
use Rattle.paper.specs.declared.RanAll.{RanAll}
use Rattle.paper.specs.declared.Counted.{Counted}
use Rattle.paper.specs.declared.Summary as C
use Rattle.paper.specs.declared.Agreement.{Agreement}
use Rattle.paper.specs.declared.Verdict.TheVariants.{Accepted, Violated}
use Rattle.paper.specs.declared.Agreement.TheVariants.{Agrees, Differs}
use mathlib.Core.Path.{◌≡◌, refl, sym, ap, ◌∙◌}
use mathlib.Core.Bool.{Bool, true, false, cond}
use mathlib.Core.Option.{Option, none, some}
use mathlib.Core.List.{List}
use Rattle.paper.specs.declared.Place.{Place}
use Rattle.paper.specs.declared.Place.TheVariants as P
use Rattle.paper.specs.declared.Explanation.{Explanation}
use Rattle.paper.specs.declared.Explanation.TheVariants as X
use Rattle.paper.specs.declared.Rechecking.{Rechecking}
use Rattle.paper.specs.declared.Rechecking.TheVariants as K
use Rattle.paper.specs.Answers.{Input, in_text, in_list, in_entry, in_blocks, in_buffer, in_contract, in_table, Answer, ok, refused, input_of, offset_of, Ran, says, judgement_says, running_says, refusal, Judgement, says_as, ran, accepts}
use Rattle.paper.specs.Calls.{read_answer, check_answer, judge_answer, translate_answer, translate_buffer, load_answer, run_answer, print_answer, print_buffer}
use Rattle.paper.specs.TranslationCorrect.{verdict_of}
use Rattle.paper.specs.Parts.{Part}
use Rattle.paper.specs.Explained.{Reason, in_part, at_key, nothing_to_show, false_part, is_record, key_index, name_stretch, reason_for, explain_answer, explanation_says}
use Rattle.paper.specs.Named.{Summary, summary_answer, summarizing_says, summary}
use Rattle.paper.specs.Rechecking.{Rechecked, reused, judged, recheck_answer, rechecking_says}
use Rattle.paper.specs.Fixing.{fix_answer, fix_buffer}
use Rattle.paper.specs.Drafting.{draft_answer, draft_buffer}
use Rattle.paper.specs.Comparing.{compare_answer, agreement_says, agreement, agrees, agreement_for}
use Rattle.paper.specs.Counting.{Totals, count_answer, count_numbers, counting_says, totals}
use Rattle.paper.specs.RunAll.{AllRan, run_all_answer, run_all_bytes, running_all_says, all_ran_by}
use Rattle.paper.specs.Promised.{ExplainPromised, RecheckPromised, verdict, verdict_in, judgement_of_run, Sole, NoSecondResult, CanBeKept, verdict_for}

-- places

abbrev pub place_at : Input → ℕ → Place
place_at in_text at = P.Text at
place_at in_list at = P.List at
place_at in_entry at = P.Entry at
place_at in_blocks at = P.Blocks at
place_at in_buffer at = P.Buffer at
place_at in_contract at = P.Contract at
place_at in_table at = P.Table at

place_back : (p : Place) → place_at (input_of p) (offset_of p) ≡ p
place_back (P.Text at) = refl
place_back (P.List at) = refl
place_back (P.Entry at) = refl
place_back (P.Blocks at) = refl
place_back (P.Buffer at) = refl
place_back (P.Contract at) = refl
place_back (P.Table at) = refl

refusal_back : {A : Type 0} (n : ℕ) (i : Input) (at : ℕ)
    → ◌≡◌ {A = Answer A} (refused n (input_of (place_at i at)) (offset_of (place_at i at))) (refused n i at)
refusal_back n in_text at = refl
refusal_back n in_list at = refl
refusal_back n in_entry at = refl
refusal_back n in_blocks at = refl
refusal_back n in_buffer at = refl
refusal_back n in_contract at = refl
refusal_back n in_table at = refl

-- A result whose value reads back from what it says: one result says each answer.

module _ {A B : Type 0} (f : A → B) (g : B → A) (there : (b : B) → f (g b) ≡ b) (again : (a : A) → g (f a) ≡ a) where
  abbrev back : Answer B → Result A Refusal
  back (ok b) = Ok (g b)
  back (refused n i at) = refusal n (place_at i at)

  back_says : (a : Answer B) → says_as f (back a) ≡ a
  back_says (ok b) = ap ok (there b)
  back_says (refused n i at) = refusal_back n i at

  says_back : (r : Result A Refusal) → back (says_as f r) ≡ r
  says_back (Ok a) = ap Ok (again a)
  says_back (Err v) = ap (refusal v.number) (place_back v.place)

  same_says : (r s : Result A Refusal) → says_as f r ≡ says_as f s → r ≡ s
  same_says r s h = sym (says_back r) ∙ ap back h ∙ says_back s

  one_says : (a : Answer B) → Sole (λ r. says_as f r ≡ a)
  one_says a = record { result = back a; satisfies = back_says a; no_second = λ r h. sym (says_back r) ∙ ap back h }

-- results that say the same are the same, and each answer is that of a result

pub says_same : {A : Type 0} → (r s : Result A Refusal) → says r ≡ says s → r ≡ s
says_same = same_says (λ a. a) (λ a. a) (λ a. refl) (λ a. refl)

pub one_said : {A : Type 0} → (a : Answer A) → Sole (λ (r : Result A Refusal). says r ≡ a)
one_said = one_says (λ a. a) (λ a. a) (λ a. refl) (λ a. refl)

abbrev accepts_for : (b : Bool) → accepts (verdict_for b) ≡ b
accepts_for true = refl
accepts_for false = refl

abbrev verdict_back : (v : Verdict) → verdict_for (accepts v) ≡ v
verdict_back Accepted = refl
verdict_back Violated = refl

pub verdict_says : (b : Bool) → judgement_says (verdict b) ≡ ok b
verdict_says b = ap ok (accepts_for b)

pub judgement_same : (r s : Judgement) → judgement_says r ≡ judgement_says s → r ≡ s
judgement_same = same_says accepts verdict_for accepts_for verdict_back

one_judgement : (a : Answer Bool) → Sole (λ r. judgement_says r ≡ a)
one_judgement = one_says accepts verdict_for accepts_for verdict_back

abbrev ended_for : Ran → Ended
ended_for a = record { verdict = verdict_for a.accepted; steps = a.steps }

ran_for : (a : Ran) → ran (ended_for a) ≡ a
ran_for a = ap (λ (b : Bool). record { accepted = b; steps = a.steps }) (accepts_for a.accepted)

ended_back : (e : Ended) → ended_for (ran e) ≡ e
ended_back e = ap (λ (v : Verdict). record { verdict = v; steps = e.steps }) (verdict_back e.verdict)

pub ran_says : (b : Bool) (n : ℕ) → running_says (verdict_in b n) ≡ ok (record { accepted = b; steps = n })
ran_says b n = ap ok (ran_for (record { accepted = b; steps = n }))

pub running_same : (r s : Result Ended Refusal) → running_says r ≡ running_says s → r ≡ s
running_same = same_says ran ended_for ran_for ended_back

one_running : (a : Answer Ran) → Sole (λ r. running_says r ≡ a)
one_running = one_says ran ended_for ran_for ended_back

-- a run, its steps aside, says the verdict of what it says
pub judgement_of_run_lem : (r : Result Ended Refusal) → judgement_says (judgement_of_run r) ≡ verdict_of (running_says r)
judgement_of_run_lem (Ok e) = refl
judgement_of_run_lem (Err v) = refl

agrees_for : (b : Bool) → agrees (agreement_for b) ≡ b
agrees_for true = refl
agrees_for false = refl

agreement_back : (a : Agreement) → agreement_for (agrees a) ≡ a
agreement_back Agrees = refl
agreement_back Differs = refl

pub agreement_says_lem : (b : Bool) → agreement_says (agreement b) ≡ ok b
agreement_says_lem b = ap ok (agrees_for b)

pub agreement_same : (r s : Result Agreement Refusal) → agreement_says r ≡ agreement_says s → r ≡ s
agreement_same = same_says agrees agreement_for agrees_for agreement_back

pub one_agreement : (a : Answer Bool) → Sole (λ r. agreement_says r ≡ a)
one_agreement = one_says agrees agreement_for agrees_for agreement_back

abbrev counted_for : Totals → Counted
counted_for t = record { parts = t.parts; accepted = t.accepted; violated = t.violated; refused = t.refused; cut = t.cut }

pub counting_same : (r s : Result Counted Refusal) → counting_says r ≡ counting_says s → r ≡ s
counting_same = same_says totals counted_for (λ t. refl) (λ c. refl)

one_counting : (a : Answer Totals) → Sole (λ r. counting_says r ≡ a)
one_counting = one_says totals counted_for (λ t. refl) (λ c. refl)

abbrev ran_all_for : AllRan → RanAll
ran_all_for a = record { entries = a.entries; steps = a.steps }

pub running_all_same : (r s : Result RanAll Refusal) → running_all_says r ≡ running_all_says s → r ≡ s
running_all_same = same_says all_ran_by ran_all_for (λ a. refl) (λ a. refl)

one_running_all : (a : Answer AllRan) → Sole (λ r. running_all_says r ≡ a)
one_running_all = one_says all_ran_by ran_all_for (λ a. refl) (λ a. refl)

abbrev summary_for : Summary → C.Summary
summary_for s = record { keys = s.keys; priority = s.priority }

pub summarizing_same : (r s : Result C.Summary Refusal) → summarizing_says r ≡ summarizing_says s → r ≡ s
summarizing_same = same_says summary summary_for (λ s. refl) (λ s. refl)

one_summary : (a : Answer Summary) → Sole (λ r. summarizing_says r ≡ a)
one_summary = one_says summary summary_for (λ s. refl) (λ s. refl)

-- an explanation: a part, the key at a record's place, or nothing and a judgement

abbrev pub judgement_for : Answer Bool → Judgement
judgement_for = back accepts verdict_for accepts_for verdict_back

judgement_back : (j : Judgement) → judgement_for (judgement_says j) ≡ j
judgement_back = says_back accepts verdict_for accepts_for verdict_back

abbrev pub explanation_for : Reason → Explanation
explanation_for (in_part number place s) = X.Part number place s.from s.to
explanation_for (at_key place k s) = X.Key place s.from s.to
explanation_for (nothing_to_show a) = X.Nothing (judgement_for a)

says_for : (r : Explanation) → explanation_for (explanation_says r) ≡ r
says_for (X.Part number place from to) = refl
says_for (X.Key place from to) = refl
says_for (X.Nothing j) = ap X.Nothing (judgement_back j)

for_says : (list : List ℕ) (x : Answer (Option Part)) → explanation_says (explanation_for (reason_for list x)) ≡ reason_for list x
for_says list (ok (some p)) = refl
for_says list (ok none) = refl
for_says list (refused n i at) = go (is_record n at)
  where
    go : (b : Bool)
        → (let r = cond b (at_key at (key_index at) (name_stretch list (key_index at))) (nothing_to_show (refused n i at)) in
        explanation_says (explanation_for r) ≡ r)
    go true = refl
    go false = ap nothing_to_show (refusal_back n i at)

one_explanation : (text list entry : List ℕ) → Sole (ExplainPromised text list entry)
unfolding explain_answer
one_explanation text list entry =
    record {
      result = explanation_for (explain_answer text list entry);
      satisfies = for_says list (false_part text list entry);
      no_second = λ r h. sym (says_for r) ∙ ap explanation_for h;
    }

-- a recheck: a judgement, with a case for each way that it was come by

judgement_told : (a : Answer Bool) → judgement_says (judgement_for a) ≡ a
judgement_told = back_says accepts verdict_for accepts_for verdict_back

abbrev rechecking_for : Rechecked → Rechecking
rechecking_for (reused a) = K.Reused (judgement_for a)
rechecking_for (judged a) = K.Judged (judgement_for a)

recheck_told : (r : Rechecked) → rechecking_says (rechecking_for r) ≡ r
recheck_told (reused a) = ap reused (judgement_told a)
recheck_told (judged a) = ap judged (judgement_told a)

recheck_back : (r : Rechecking) → rechecking_for (rechecking_says r) ≡ r
recheck_back (K.Reused j) = ap K.Reused (judgement_back j)
recheck_back (K.Judged j) = ap K.Judged (judgement_back j)

one_recheck : (text list old : List ℕ) (earlier : Judgement) (new : List ℕ) → Sole (RecheckPromised text list old earlier new)
one_recheck text list old earlier new =
    let answer = recheck_answer text list old (judgement_says earlier) new in
    record {
      result = rechecking_for answer;
      satisfies = recheck_told answer;
      no_second = λ r h. sym (recheck_back r) ∙ ap rechecking_for h;
    }

pub explanation_same : (r s : Explanation) → explanation_says r ≡ explanation_says s → r ≡ s
explanation_same r s h = sym (says_for r) ∙ ap explanation_for h ∙ says_for s

-- calls

pub no_second_result : NoSecondResult
no_second_result =
    record {
      read = λ text. one_said (read_answer text);
      check = λ text list. one_said (check_answer text list);
      judge = λ text list entry. one_judgement (judge_answer text list entry);
      translate = λ text list buffer.
          let answer = one_said (translate_answer text list buffer) in
          record {
            result = record { answer = answer.result; buffer = translate_buffer text list buffer };
            satisfies = record { says = answer.satisfies; holds = refl };
            no_second = λ r h i. record { answer = answer.no_second r.answer h.says i; buffer = h.holds i };
          };
      load = λ list blocks. one_said (load_answer list blocks);
      run = λ list blocks entry. one_running (run_answer list blocks entry);
      print = λ text buffer.
          let answer = one_said (print_answer text buffer) in
          record {
            result = record { answer = answer.result; buffer = print_buffer text buffer };
            satisfies = record { says = answer.satisfies; holds = refl };
            no_second = λ r h i. record { answer = answer.no_second r.answer h.says i; buffer = h.holds i };
          };
      explain = one_explanation;
      summarize = λ text list. one_summary (summary_answer text list);
      recheck = one_recheck;
      fix = λ text buffer.
          let answer = one_said (fix_answer text buffer) in
          record {
            result = record { answer = answer.result; buffer = fix_buffer text buffer };
            satisfies = record { says = answer.satisfies; holds = refl };
            no_second = λ r h i. record { answer = answer.no_second r.answer h.says i; buffer = h.holds i };
          };
      draft = λ contract table list buffer.
          let answer = one_said (draft_answer contract table list buffer) in
          record {
            result = record { answer = answer.result; buffer = draft_buffer contract table list buffer };
            satisfies = record { says = answer.satisfies; holds = refl };
            no_second = λ r h i. record { answer = answer.no_second r.answer h.says i; buffer = h.holds i };
          };
      compare = λ text list blocks. one_agreement (compare_answer text list blocks);
      count = λ text list entries numbers.
          let answer = one_counting (count_answer text list entries) in
          record {
            result = record { answer = answer.result; numbers = count_numbers text list entries numbers };
            satisfies = record { says = answer.satisfies; holds = refl };
            no_second = λ r h i. record { answer = answer.no_second r.answer h.says i; numbers = h.holds i };
          };
      run_all = λ list blocks entries answers.
          let answer = one_running_all (run_all_answer list blocks entries answers) in
          record {
            result = record { answer = answer.result; bytes = run_all_bytes list blocks entries answers };
            satisfies = record { says = answer.satisfies; holds = refl };
            no_second = λ r h i. record { answer = answer.no_second r.answer h.says i; bytes = h.holds i };
          };
    }

pub can_be_kept : CanBeKept
can_be_kept =
    let s = no_second_result in (
      record {
        read = λ text. (s.read text).result;
        check = λ text list. (s.check text list).result;
        judge = λ text list entry. (s.judge text list entry).result;
        translate = λ text list buffer. (s.translate text list buffer).result;
        load = λ list blocks. (s.load list blocks).result;
        run = λ list blocks entry. (s.run list blocks entry).result;
        print = λ text buffer. (s.print text buffer).result;
        explain = λ text list entry. (s.explain text list entry).result;
        summarize = λ text list. (s.summarize text list).result;
        recheck = λ text list old earlier new. (s.recheck text list old earlier new).result;
        fix = λ text buffer. (s.fix text buffer).result;
        draft = λ contract table list buffer. (s.draft contract table list buffer).result;
        compare = λ text list blocks. (s.compare text list blocks).result;
        count = λ text list entries numbers. (s.count text list entries numbers).result;
        run_all = λ list blocks entries answers. (s.run_all list blocks entries answers).result;
      },
      record {
        read = λ text _. (s.read text).satisfies;
        check = λ text list _ _. (s.check text list).satisfies;
        judge = λ text list entry _ _ _. (s.judge text list entry).satisfies;
        translate = λ text list buffer _ _ _. (s.translate text list buffer).satisfies;
        load = λ list blocks _ _. (s.load list blocks).satisfies;
        run = λ list blocks entry _ _ _. (s.run list blocks entry).satisfies;
        print = λ text buffer _ _. (s.print text buffer).satisfies;
        explain = λ text list entry _ _ _. (s.explain text list entry).satisfies;
        summarize = λ text list _ _. (s.summarize text list).satisfies;
        recheck = λ text list old earlier new _ _ _ _. (s.recheck text list old earlier new).satisfies;
        fix = λ text buffer _ _. (s.fix text buffer).satisfies;
        draft = λ contract table list buffer _ _ _ _. (s.draft contract table list buffer).satisfies;
        compare = λ text list blocks _ _ _. (s.compare text list blocks).satisfies;
        count = λ text list entries numbers _ _ _ _. (s.count text list entries numbers).satisfies;
        run_all = λ list blocks entries answers _ _ _ _. (s.run_all list blocks entries answers).satisfies;
      },
    )
