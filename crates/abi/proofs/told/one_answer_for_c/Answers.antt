-- One result keeps the promise of a call, and no second; so one answer is told of it.
use mathlib.Core.Path.{◌≡◌, refl, sym, ap, ◌∙◌}
use mathlib.Core.List.{List}
use Prim.Native.Nat.{ℕ}
use Rattle.paper.specs.Answers.{says, judgement_says, running_says}
use Rattle.paper.specs.Explained.{explanation_says}
use Rattle.paper.specs.Named.{summarizing_says}
use Rattle.paper.specs.Rechecking.{rechecking_says}
use Rattle.paper.specs.Comparing.{agreement_says}
use Rattle.paper.specs.Counting.{counting_says}
use Rattle.paper.specs.RunAll.{running_all_says}
use Rattle.paper.specs.Promised.{TranslateResult, TranslatePromised, PrintResult, PrintPromised, FixResult, FixPromised, DraftResult, DraftPromised, CountResult, CountPromised, RunAllResult, RunAllPromised, Sole}
use Rattle.paper.proofs.Promised.{no_second_result}
use Rattle.abi.specs.Heard.{heard_as}
use Rattle.abi.specs.Told.{counted, passed, judged, ran, compared, reasoned, summarized, rechecked, tallied, ran_through, Tells, OneAnswerForC}
use Rattle.abi.proofs.told.one_answer_for_c.Goals as goal

told_once : {R N : Type 0} (Promised : R → Type 0) (numbers : R → N) → Sole Promised → Sole (Tells Promised numbers)
told_once Promised numbers one =
    record {
      result = numbers one.result;
      satisfies = record { result = one.result; promised = one.satisfies; same = refl };
      no_second = λ a t. t.same ∙ ap numbers (one.no_second t.result t.promised);
    }

-- of an answer, and a buffer, answers or numbers at exit, that make up a result
told_with_buffer : {A R N : Type 0} (whole : A → List ℕ → R) (answer : R → A) (buffer : R → List ℕ) (answered : (r : A) (s : List ℕ) → answer (whole r s) ≡ r) (holds : (r : A) (s : List ℕ) → buffer (whole r s) ≡ s) → (Promised : R → Type 0) (numbers : A → N) → Sole Promised → (exit other : List ℕ) (a b : N)
    → Tells (λ r. Promised (whole r exit)) numbers a → Tells (λ r. Promised (whole r other)) numbers b → (a ≡ b) × (exit ≡ other)
told_with_buffer whole answer buffer answered holds Promised numbers one exit other a b t u =
    let same : whole t.result exit ≡ whole u.result other =
    one.no_second (whole t.result exit) t.promised ∙ sym (one.no_second (whole u.result other) u.promised)
    in (
      t.same ∙ ap numbers (sym (answered t.result exit) ∙ ap answer same ∙ answered u.result other) ∙ sym u.same,
      sym (holds t.result exit) ∙ ap buffer same ∙ holds u.result other,
    )

one_answer : OneAnswerForC
one_answer =
    let one = no_second_result in
    record {
      read = λ text. told_once _ (λ r. counted (says r)) (one.read text);
      check = λ text list. told_once _ (λ r. passed (says r)) (one.check text list);
      judge = λ text list entry. told_once _ (λ r. judged (judgement_says r)) (one.judge text list entry);
      translate = λ text list buffer.
          told_with_buffer (λ r s. record { answer = r; buffer = s }) (λ (r : TranslateResult). r.answer) (λ (r : TranslateResult). r.buffer) (λ r s. refl) (λ r s. refl)
          (TranslatePromised text list buffer) (λ r. counted (says r)) (one.translate text list buffer);
      load = λ list blocks. told_once _ (λ r. counted (says r)) (one.load list blocks);
      run = λ list blocks entry. told_once _ (λ r. ran (running_says r)) (one.run list blocks entry);
      run_all = λ list blocks entries answers.
          told_with_buffer (λ r s. record { answer = r; bytes = s }) (λ (r : RunAllResult). r.answer) (λ (r : RunAllResult). r.bytes) (λ r s. refl) (λ r s. refl)
          (RunAllPromised list blocks entries answers) (λ r. ran_through (running_all_says r)) (one.run_all list blocks entries answers);
      print = λ text buffer.
          told_with_buffer (λ r s. record { answer = r; buffer = s }) (λ (r : PrintResult). r.answer) (λ (r : PrintResult). r.buffer) (λ r s. refl) (λ r s. refl)
          (PrintPromised text buffer) (λ r. counted (says r)) (one.print text buffer);
      fix = λ text buffer.
          told_with_buffer (λ r s. record { answer = r; buffer = s }) (λ (r : FixResult). r.answer) (λ (r : FixResult). r.buffer) (λ r s. refl) (λ r s. refl)
          (FixPromised text buffer) (λ r. counted (says r)) (one.fix text buffer);
      draft = λ contract table list buffer.
          told_with_buffer (λ r s. record { answer = r; buffer = s }) (λ (r : DraftResult). r.answer) (λ (r : DraftResult). r.buffer) (λ r s. refl) (λ r s. refl)
          (DraftPromised contract table list buffer) (λ r. counted (says r)) (one.draft contract table list buffer);
      compare = λ text list blocks. told_once _ (λ r. compared (agreement_says r)) (one.compare text list blocks);
      count = λ text list entries numbers.
          told_with_buffer (λ r s. record { answer = r; numbers = s }) (λ (r : CountResult). r.answer) (λ (r : CountResult). r.numbers) (λ r s. refl) (λ r s. refl)
          (CountPromised text list entries numbers) (λ r. tallied (counting_says r)) (one.count text list entries numbers);
      explain = λ text list entry. told_once _ (λ r. reasoned (explanation_says r)) (one.explain text list entry);
      summarize = λ text list. told_once _ (λ r. summarized (summarizing_says r)) (one.summarize text list);
      recheck = λ text list old earlier new. told_once _ (λ r. rechecked (rechecking_says r)) (one.recheck text list old (heard_as earlier) new);
    }

pub returns : goal.returns
returns c = one_answer
