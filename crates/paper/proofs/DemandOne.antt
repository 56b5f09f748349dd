-- Demand 1: programs that keep the promises answer every input as the table of 01 says, and a refusal changes nothing lent.
use Prim.Native.Nat.{ℕ}
use Rattle.std.specs.Prelude.{Result}
use Rattle.paper.specs.declared.Refusal.{Refusal as Refused}
use Rattle.paper.specs.declared.Ended.{Ended}
use Rattle.paper.specs.declared.Summary.{Summary}
use Rattle.paper.specs.declared.Agreement.{Agreement}
use native.Mathlib.Omega.{arith}
use mathlib.Core.Path.{◌≡◌, refl, sym, ap, subst, ◌∙◌}
use mathlib.Core.Bool.{Bool}
use mathlib.Core.List.{List, [], ◌∷◌, Memᴰ}
use Rattle.paper.specs.declared.Explanation.{Explanation}
use Rattle.paper.specs.declared.Rechecking.{Rechecking}
use Rattle.paper.specs.declared.Rechecking.TheVariants as K
use Rattle.paper.specs.Answers.{Input, in_text, in_list, in_entry, in_blocks, in_buffer, in_contract, in_table, Answer, input_of, offset_of, says, judgement_says, running_says, Judgement}
use Rattle.paper.specs.Calls.{read_answer, check_answer, judge_answer, translate_answer, load_answer, run_answer, print_answer}
use Rattle.paper.specs.Explained.{explanation_says}
use Rattle.paper.specs.ExplainedRight.{judgement_of}
use Rattle.paper.specs.Named.{summary_answer, summarizing_says}
use Rattle.paper.specs.Rechecking.{Rechecked, reused, judged}
use Rattle.paper.specs.RecheckedRight.{Reusable, Rechecks, is_reused, is_judged}
use Rattle.paper.specs.Fixing.{fix_answer}
use Rattle.paper.specs.Drafting.{name_rule, draft_answer}
use Rattle.paper.specs.Comparing.{compare_answer, agreement_says}
use Rattle.paper.specs.Counting.{count_answer, counting_says}
use Rattle.paper.specs.RunAll.{run_all_answer, running_all_says}
use Rattle.paper.specs.Table.{Clear, ByTable, Stage, size_stages, list_stages_by, list_stages, tree_stages, entry_stages, entries_stages, table_stages, block_stages, buffer_stages, printing_stages, fixing_stages, drafting_stages, check_stages, read_stages, judge_stages, translate_stages, load_stages, run_stages, print_stages, fix_stages, draft_stages, compare_stages, count_stages, run_all_stages}
use Rattle.paper.specs.Promised.{ReadPromised, CheckPromised, JudgePromised, TranslateResult, TranslatePromised, LoadPromised, RunPromised, PrintResult, PrintPromised, FixResult, FixPromised, DraftResult, DraftPromised, ComparePromised, CountResult, CountPromised, RunAllResult, RunAllPromised, ExplainPromised, SummarizePromised, RecheckPromised}
use Rattle.paper.specs.Demands.{Lent, lent, Refusal, Answered, ReadAnswered, CheckAnswered, EntryAnswered, JudgeAnswered, TranslateAnswered, LoadAnswered, RunAnswered, PrintAnswered, FixAnswered, DraftAnswered, CompareAnswered, CountAnswered, RunAllAnswered, ExplainAnswered, SummarizeAnswered, RecheckAnswered, DemandOneMet}
use Rattle.paper.proofs.TranslationCorrect.{refused_unchanged}
use Rattle.paper.proofs.RefusalsLocated.{AllLocated, LiesIn, located_then, decided_lies, size_located, list_located_by, list_located, tree_located, check_located, buffer_located, block_located, entry_located, entries_located, table_located, printing_located, fixing_located, drafting_located}
use Rattle.paper.proofs.Table.{table_holds}
use Rattle.paper.proofs.PrintDemands.{print_unchanged}
use Rattle.paper.proofs.FixDemands.{fix_unchanged}
use Rattle.paper.proofs.DraftDemands.{draft_unchanged}
use Rattle.paper.proofs.CountedRight.{count_unchanged}
use Rattle.paper.proofs.RunAllPassed.{run_all_unchanged}
use Rattle.paper.proofs.ExplainedRight.{explained_as_judged, judge_passes}
use Rattle.paper.proofs.RecheckedRight.{reused_exactly}
use Rattle.paper.proofs.Promised.{judgement_same}

lies_refusal : (inputs : List Lent) (n : ℕ) (i : Input) (at : ℕ) → LiesIn inputs n i at → Refusal inputs n i at
lies_refusal inputs n i at l =
    record {
      low = l.bounded.low;
      high = l.bounded.high;
      lies = lent i l.bytes;
      among = l.among;
      named = refl;
      inside = l.bounded.inside;
    }

-- an answer by the table, and one that says the same
answered_by : {A : Type 0} (inputs : List Lent) (a said : Answer A) (ss : List Stage) → ByTable a ss → AllLocated inputs ss → said ≡ a
    → Answered inputs ss said
answered_by inputs a said ss table located e =
    subst (Answered inputs ss) (sym e)
    (record {
      table = table;
      inside = λ n i at r. lies_refusal inputs n i at (decided_lies inputs ss n i at located ((table.refuses n i at).0 r));
    })

here : {x : Lent} {xs : List Lent} → Memᴰ x (x ∷ xs)
here = Memᴰ.head refl

second : {x y : Lent} {xs : List Lent} → Memᴰ x (y ∷ x ∷ xs)
second = Memᴰ.tail here

third : {x y z : Lent} {xs : List Lent} → Memᴰ x (y ∷ z ∷ x ∷ xs)
third = Memᴰ.tail second

fourth : {x y z w : Lent} {xs : List Lent} → Memᴰ x (y ∷ z ∷ w ∷ x ∷ xs)
fourth = Memᴰ.tail third

read_located : (inputs : List Lent) (text : List ℕ) → Memᴰ (lent in_text text) inputs → AllLocated inputs (read_stages text)
read_located inputs text m =
    located_then inputs (size_stages text) (tree_stages text) (size_located inputs text m) (λ _. tree_located inputs text m)

pub read_answered : (text : List ℕ) (r : Result ℕ Refused) → ReadPromised text r → ReadAnswered text r
read_answered text r promised =
    let inputs = lent in_text text ∷ [] in
    answered_by inputs (read_answer text) (says r) (read_stages text) (table_holds.read text)
    (read_located inputs text here) promised

pub check_answered : (text list : List ℕ) (r : Result (Unit {0}) Refused) → CheckPromised text list r → CheckAnswered text list r
check_answered text list r promised =
    let inputs = lent in_text text ∷ lent in_list list ∷ [] in
    answered_by inputs (check_answer text list) (says r) (check_stages text list) (table_holds.check text list)
    (check_located inputs text list here second) promised

-- what tells the judgement
entry_answered : (text list entry : List ℕ) (a : Answer Bool) → a ≡ judge_answer text list entry → EntryAnswered text list entry a
entry_answered text list entry a told =
    let inputs = lent in_text text ∷ lent in_list list ∷ lent in_entry entry ∷ [] in
    answered_by inputs (judge_answer text list entry) a (judge_stages text list entry) (table_holds.judge text list entry)
    (located_then inputs (check_stages text list) (entry_stages list entry) (check_located inputs text list here second)
    (λ _. entry_located inputs list entry third)) told

pub judge_answered : (text list entry : List ℕ) (r : Judgement) → JudgePromised text list entry r → JudgeAnswered text list entry r
judge_answered text list entry r promised = entry_answered text list entry (judgement_says r) promised

pub explain_answered : (text list entry : List ℕ) (r : Explanation) → ExplainPromised text list entry r → ExplainAnswered text list entry r
explain_answered text list entry r promised =
    entry_answered text list entry (judgement_of (explanation_says r)) (ap judgement_of promised ∙ explained_as_judged text list entry)

pub translate_answered : (text list buffer : List ℕ) (r : TranslateResult) → TranslatePromised text list buffer r
    → TranslateAnswered text list buffer r
translate_answered text list buffer r promised =
    let inputs = lent in_text text ∷ lent in_list list ∷ lent in_buffer buffer ∷ [] in
    record {
      says =
          answered_by inputs (translate_answer text list buffer) (says r.answer) (translate_stages text list buffer)
          (table_holds.translate text list buffer)
          (located_then inputs (check_stages text list) (buffer_stages text list buffer) (check_located inputs text list here second)
          (λ _. buffer_located inputs text list buffer third)) promised.says;
      unchanged = λ v e.
          promised.holds
          ∙ refused_unchanged text list buffer v.number (input_of v.place) (offset_of v.place) (sym promised.says ∙ ap says e);
    }

load_located : (inputs : List Lent) (list blocks : List ℕ) → Memᴰ (lent in_list list) inputs → Memᴰ (lent in_blocks blocks) inputs
    → AllLocated inputs (load_stages list blocks)
load_located inputs list blocks l s =
    located_then inputs (list_stages list) (block_stages list blocks) (list_located inputs list l) (λ _. block_located inputs list blocks s)

pub load_answered : (list blocks : List ℕ) (r : Result ℕ Refused) → LoadPromised list blocks r → LoadAnswered list blocks r
load_answered list blocks r promised =
    let inputs = lent in_list list ∷ lent in_blocks blocks ∷ [] in
    answered_by inputs (load_answer list blocks) (says r) (load_stages list blocks) (table_holds.load list blocks)
    (load_located inputs list blocks here second) promised

pub run_answered : (list blocks entry : List ℕ) (r : Result Ended Refused) → RunPromised list blocks entry r → RunAnswered list blocks entry r
run_answered list blocks entry r promised =
    let inputs = lent in_list list ∷ lent in_blocks blocks ∷ lent in_entry entry ∷ [] in
    answered_by inputs (run_answer list blocks entry) (running_says r) (run_stages list blocks entry) (table_holds.run list blocks entry)
    (located_then inputs (load_stages list blocks) (entry_stages list entry) (load_located inputs list blocks here second)
    (λ _. entry_located inputs list entry third)) promised

pub print_answered : (text buffer : List ℕ) (r : PrintResult) → PrintPromised text buffer r → PrintAnswered text buffer r
print_answered text buffer r promised =
    let inputs = lent in_text text ∷ lent in_buffer buffer ∷ [] in
    record {
      says =
          answered_by inputs (print_answer text buffer) (says r.answer) (print_stages text buffer) (table_holds.print text buffer)
          (located_then inputs (read_stages text) (printing_stages text buffer) (read_located inputs text here)
          (λ _. printing_located inputs text buffer second)) promised.says;
      unchanged = print_unchanged text buffer r promised;
    }

pub fix_answered : (text buffer : List ℕ) (r : FixResult) → FixPromised text buffer r → FixAnswered text buffer r
fix_answered text buffer r promised =
    let inputs = lent in_text text ∷ lent in_buffer buffer ∷ [] in
    record {
      says =
          answered_by inputs (fix_answer text buffer) (says r.answer) (fix_stages text buffer) (table_holds.fix text buffer)
          (located_then inputs (size_stages text) (fixing_stages text buffer) (size_located inputs text here)
          (λ _. fixing_located inputs text buffer here second)) promised.says;
      unchanged = fix_unchanged text buffer r promised;
    }

pub draft_answered : (contract table list buffer : List ℕ) (r : DraftResult) → DraftPromised contract table list buffer r
    → DraftAnswered contract table list buffer r
draft_answered contract table list buffer r promised =
    let inputs = lent in_contract contract ∷ lent in_table table ∷ lent in_list list ∷ lent in_buffer buffer ∷ [] in
    record {
      says =
          answered_by inputs (draft_answer contract table list buffer) (says r.answer) (draft_stages contract table list buffer)
          (table_holds.draft contract table list buffer)
          (located_then inputs (list_stages_by name_rule list) (drafting_stages contract table list buffer) (list_located_by inputs name_rule list third)
          (λ _. drafting_located inputs contract table list buffer here second fourth)) promised.says;
      unchanged = draft_unchanged contract table list buffer r promised;
    }

pub compare_answered : (text list blocks : List ℕ) (r : Result Agreement Refused) → ComparePromised text list blocks r → CompareAnswered text list blocks r
compare_answered text list blocks r promised =
    let inputs = lent in_text text ∷ lent in_list list ∷ lent in_blocks blocks ∷ [] in
    answered_by inputs (compare_answer text list blocks) (agreement_says r) (compare_stages text list blocks) (table_holds.compare text list blocks)
    (located_then inputs (check_stages text list) (block_stages list blocks) (check_located inputs text list here second)
    (λ _. block_located inputs list blocks third)) promised

pub count_answered : (text list entries numbers : List ℕ) (r : CountResult) → CountPromised text list entries numbers r
    → CountAnswered text list entries numbers r
count_answered text list entries numbers r promised =
    let inputs = lent in_text text ∷ lent in_list list ∷ lent in_entry entries ∷ [] in
    record {
      says =
          answered_by inputs (count_answer text list entries) (counting_says r.answer) (count_stages text list entries)
          (table_holds.count text list entries)
          (located_then inputs (check_stages text list) (entries_stages list entries) (check_located inputs text list here second)
          (λ _. entries_located inputs list entries third)) promised.says;
      unchanged = λ v e.
          promised.holds
          ∙ count_unchanged text list entries numbers v.number (input_of v.place) (offset_of v.place) (sym promised.says ∙ ap counting_says e);
    }

pub run_all_answered : (list blocks entries answers : List ℕ) (r : RunAllResult) → RunAllPromised list blocks entries answers r
    → RunAllAnswered list blocks entries answers r
run_all_answered list blocks entries answers r promised =
    let inputs = lent in_list list ∷ lent in_blocks blocks ∷ lent in_entry entries ∷ lent in_buffer answers ∷ [] in
    record {
      says =
          answered_by inputs (run_all_answer list blocks entries answers) (running_all_says r.answer) (run_all_stages list blocks entries answers)
          (table_holds.run_all list blocks entries answers)
          (located_then inputs (load_stages list blocks) (table_stages list entries answers) (load_located inputs list blocks here second)
          (λ _. table_located inputs list entries answers third fourth)) promised.says;
      unchanged = λ v e.
          promised.holds
          ∙ run_all_unchanged list blocks entries answers v.number (input_of v.place) (offset_of v.place) (sym promised.says ∙ ap running_all_says e);
    }

pub summarize_answered : (text list : List ℕ) (r : Result Summary Refused) → SummarizePromised text list r → SummarizeAnswered text list r
summarize_answered text list r promised =
    let inputs = lent in_text text ∷ lent in_list list ∷ [] in
    answered_by inputs (summary_answer text list) (summarizing_says r) (check_stages text list) (table_holds.summarize text list)
    (check_located inputs text list here second) promised

-- an answer is reused where the new entry is judged, so that no stage of its judgement has a fault
module _ (text list old : List ℕ) (earlier : Judgement) (new : List ℕ) where
  no_fault : Reusable text list old new → Clear (judge_stages text list new)
  no_fault u =
      let b = u.both in
      let judged-there = judge_passes text list new b.rule b.is b.passes b.new_conforms in
      (table_holds.judge text list new).passes.0 (_, judged-there)

  reused_as : (j : Judgement) (x : Rechecked) → Rechecks text list old (judgement_says earlier) new x → reused (judgement_says j) ≡ x
      → (j ≡ earlier) × Clear (judge_stages text list new)
  reused_as j x (is_reused u) e =
      let same : judgement_says j ≡ judgement_says earlier = cc e in
      (judgement_same j earlier same, no_fault u)
  reused_as j x (is_judged unless) e = absurd (let z : ◌≡◌ {A = ℕ} 0 1 = cc e in omega arith)

  judged_as : (j : Judgement) (x : Rechecked) → Rechecks text list old (judgement_says earlier) new x → judged (judgement_says j) ≡ x
      → JudgePromised text list new j
  judged_as j x (is_reused u) e = absurd (let z : ◌≡◌ {A = ℕ} 0 1 = cc e in omega arith)
  judged_as j x (is_judged unless) e = cc e

  pub recheck_judged : (j : Judgement) → RecheckPromised text list old earlier new (K.Judged j) → JudgePromised text list new j
  recheck_judged j promised =
      let right = (reused_exactly text list old (judgement_says earlier) new (judged (judgement_says j))).0 (sym promised) in
      judged_as j (judged (judgement_says j)) right refl

  pub recheck_answered : (r : Rechecking) → RecheckPromised text list old earlier new r → RecheckAnswered text list earlier new r
  recheck_answered (K.Reused j) promised =
      let right = (reused_exactly text list old (judgement_says earlier) new (reused (judgement_says j))).0 (sym promised) in
      reused_as j (reused (judgement_says j)) right refl
  recheck_answered (K.Judged j) promised = judge_answered text list new j (recheck_judged j promised)

pub demand_one_met : DemandOneMet
demand_one_met p kept =
    record {
      read = λ text t. read_answered text (p.read text) (kept.read text t);
      check = λ text list t l. check_answered text list (p.check text list) (kept.check text list t l);
      judge = λ text list entry t l e. judge_answered text list entry (p.judge text list entry) (kept.judge text list entry t l e);
      translate = λ text list buffer t l b.
          translate_answered text list buffer (p.translate text list buffer) (kept.translate text list buffer t l b);
      load = λ list blocks l s. load_answered list blocks (p.load list blocks) (kept.load list blocks l s);
      run = λ list blocks entry l s e. run_answered list blocks entry (p.run list blocks entry) (kept.run list blocks entry l s e);
      print = λ text buffer t b. print_answered text buffer (p.print text buffer) (kept.print text buffer t b);
      explain = λ text list entry t l e. explain_answered text list entry (p.explain text list entry) (kept.explain text list entry t l e);
      summarize = λ text list t l. summarize_answered text list (p.summarize text list) (kept.summarize text list t l);
      recheck = λ text list old earlier new t l o n.
          recheck_answered text list old earlier new (p.recheck text list old earlier new) (kept.recheck text list old earlier new t l o n);
      fix = λ text buffer t b. fix_answered text buffer (p.fix text buffer) (kept.fix text buffer t b);
      draft = λ contract table list buffer c t l b.
          draft_answered contract table list buffer (p.draft contract table list buffer) (kept.draft contract table list buffer c t l b);
      compare = λ text list blocks t l s. compare_answered text list blocks (p.compare text list blocks) (kept.compare text list blocks t l s);
      count = λ text list entries numbers t l e n.
          count_answered text list entries numbers (p.count text list entries numbers) (kept.count text list entries numbers t l e n);
      run_all = λ list blocks entries answers l s e a.
          run_all_answered list blocks entries answers (p.run_all list blocks entries answers) (kept.run_all list blocks entries answers l s e a);
    }
