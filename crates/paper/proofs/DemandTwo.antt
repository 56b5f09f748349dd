-- Demand 2: programs that keep the promises refuse texts and entries exactly as the documents say, and else accept exactly when the
-- restriction holds.
use Prim.Native.Nat.{ℕ, ◌+◌, ◌*◌, ◌≤◌}
use Rattle.std.specs.Prelude.{Result, Ok, Err}
use Rattle.paper.specs.declared.Refusal.{Refusal}
use Rattle.paper.specs.declared.Summary as C
use Rattle.paper.specs.declared.RanAll.{RanAll}
use Rattle.paper.specs.declared.Counted.{Counted}
use Rattle.paper.specs.declared.Agreement.{Agreement}
use Rattle.paper.specs.declared.Verdict.TheVariants.{Accepted, Violated}
use Rattle.paper.specs.declared.Agreement.TheVariants.{Agrees, Differs}
use mathlib.Core.Path.{◌≡◌, refl, sym, ap, subst, ◌∙◌}
use mathlib.Core.Logic.{◌↔◌, ◌⊎◌, inl, inr}
use mathlib.Core.Bool.{Bool, true, false, true≢false}
use mathlib.Core.Option.{Option, some}
use mathlib.Core.List.{List}
use lib.ListN.{length}
use lib.Dec.{leb}
use borrow.Author.Tests.{leb-true, le-leb}
use Rattle.paper.specs.declared.Place.{Place}
use Rattle.paper.specs.declared.Explanation.{Explanation}
use Rattle.paper.specs.declared.Rechecking.{Rechecking}
use Rattle.paper.specs.declared.Rechecking.TheVariants as K
use Rattle.paper.specs.Answers.{in_text, Answer, ok, ◌>>=◌, says, judgement_says, Judgement}
use Rattle.paper.specs.Tokens.{most_text}
use Rattle.paper.specs.Keys.{keys}
use Rattle.paper.specs.Entry.{entry_of}
use Rattle.paper.specs.Grammar.{nodes}
use Rattle.paper.specs.Types.{type_of, root_type, typed}
use Rattle.paper.specs.Meaning.{Value, truth, value_of, is_true}
use Rattle.paper.specs.Blocks.{block_size, blocks_needed}
use Rattle.paper.specs.Translating.{code_of, conversions, joins}
use Rattle.paper.specs.Calls.{sized, tree, Restriction, restriction, check_answer, judge_answer, over}
use Rattle.paper.specs.Explained.{explanation_says}
use Rattle.paper.specs.Named.{names, marked, set_of, Summary, summary_answer, summarizing_says, summed}
use Rattle.paper.specs.Rechecking.{said_by, rechecking_says}
use Rattle.paper.specs.RecheckedRight.{Summarizes}
use Rattle.paper.specs.Loading.{loaded}
use Rattle.paper.specs.TranslationCorrect.{verdict_of}
use Rattle.paper.specs.Comparing.{compare_answer, agreement_says, agreement}
use Rattle.paper.specs.ComparedRight as Q
use Rattle.paper.specs.Counting.{whole_in, most_entries, counted as countsThere, Totals, totals_of, count_answer, noted, count_numbers, counting_says}
use Rattle.paper.specs.RunAll.{AllRan, all_ran, ran_all, run_all_answer, answered, run_all_bytes, running_all_says, ran_over}
use Rattle.paper.specs.Promised.{verdict, judgement_of_run, Bytes, Programs, Kept, ComparePromised, CountResult, CountPromised, RunAllResult, RunAllPromised, ReadPromised, CheckPromised, JudgePromised, TranslateResult, TranslatePromised, ExplainPromised, SummarizePromised, RecheckPromised}
use Rattle.paper.specs.Demands.{Checkable, Judgeable, Refuses, ReadRight, CheckedRight, JudgedRight, TranslatedRight, Comparable, CompareRight, AgreementMeans, Countable, counts_in, CountRight, AllRunnable, verdicts_in, RunAllRight, ExplainRight, SummarizeRight, judgement_in, RecheckRight, DemandTwoMet}
use Rattle.paper.proofs.Stages.{never_ok, ok_same, bind_ok, require_ok}
use Rattle.paper.proofs.LoadedBlocksRun.{conforming}
use Rattle.paper.proofs.TypeSoundness.{judged, bool_root}
use Rattle.paper.proofs.TranslationCorrect.{passing, counted, translating, translates, translated}
use Rattle.paper.proofs.Promised.{verdict_says, says_same, judgement_of_run_lem, judgement_same, agreement_says_lem, agreement_same, summarizing_same}
use Rattle.paper.proofs.WellFormed.{formed_tree, tree_formed, formed_answer, answer_formed}
use Rattle.paper.proofs.PrintDemands.{printed_right}
use Rattle.paper.proofs.FixDemands.{fixes_right}
use Rattle.paper.proofs.DraftDemands.{drafts_right}
use Rattle.paper.proofs.DraftsMean.{draft_means}
use Rattle.paper.proofs.RunsRight.{ran_right}
use Rattle.paper.proofs.ExplainedRight.{explained_is_right}
use Rattle.paper.proofs.RecheckedRight.{summary, summary_there, summarizes, reused_exactly, fresh_if_true}
use Rattle.paper.proofs.Compared.{agrees_exactly, compared, comparable, agreement_means_equal}
use Rattle.paper.proofs.CountedRight.{counted_from, counted_there}
use Rattle.paper.proofs.RunAllPassed.{all_runnable, ran_all_lem}
use Rattle.paper.proofs.DemandOne.{recheck_judged}

-- with a list, it passes a check: this is its restriction

module _ (text list : List ℕ) where
  abbrev pub restricts : Checkable text list → Restriction
  restricts c = record { keys = c.ks; root = c.root }

  pub checkable_restriction : (c : Checkable text list) → restriction text list ≡ ok (restricts c)
  unfolding restriction typed
  checkable_restriction c =
      rw (le-leb (length text) most_text c.formed.short, c.listed, formed_tree text c.root c.formed, c.typed)

  pub restriction_checkable : (r : Restriction) → restriction text list ≡ ok r → (c : Checkable text list) × (restricts c ≡ r)
  unfolding restriction typed
  restriction_checkable r passed =
      let (u, short, _) =
      bind_ok (sized text) (λ _. keys list >>= λ ks. tree text >>= λ t. typed ks t >>= λ _. ok (record { keys = ks; root = t })) r passed
      in
      let few = require_ok (leb (length text) most_text) 1 in_text most_text u short in
      let known = passing text list r passed in
      let (a, has, root) = bind_ok (type_of r.keys r.root) (root_type r.root) tt known.checked in (
        record {
          root = r.root;
          formed = tree_formed text r.root (leb-true (length text) most_text few) known.read;
          ks = r.keys;
          listed = known.listed;
          typed = has ∙ ap (λ x. ok x) (bool_root r.root a tt root);
        },
        refl,
      )

  pub checkable_answer : Checkable text list → check_answer text list ≡ ok tt
  unfolding check_answer
  checkable_answer c = rw (checkable_restriction c)

  pub answer_checkable : check_answer text list ≡ ok tt → Checkable text list
  unfolding check_answer
  answer_checkable e =
      let (r, passed, _) = bind_ok (restriction text list) (λ _. ok tt) tt e in
      (restriction_checkable r passed).0

-- with an entry, it is judged

module _ (text list entry : List ℕ) where
  abbrev pub worth : Judgeable text list entry → Option Value
  worth j = value_of j.passes.ks j.on j.passes.root

  pub judgeable_answer : (j : Judgeable text list entry) → judge_answer text list entry ≡ ok (is_true (worth j))
  unfolding judge_answer
  judgeable_answer j = rw (checkable_restriction text list j.passes, j.conforms)

  pub answer_judgeable : (b : Bool) → judge_answer text list entry ≡ ok b → Judgeable text list entry
  unfolding judge_answer
  answer_judgeable b e =
      let (r, passed, rest) =
      bind_ok (restriction text list) (λ r. entry_of r.keys entry >>= λ e. ok (is_true (value_of r.keys e r.root))) b e
      in
      let (on, conforms, _) = bind_ok (entry_of r.keys entry) (λ e. ok (is_true (value_of r.keys e r.root))) b rest in
      let (c, same) = restriction_checkable text list r passed in
      record { passes = c; on = on; conforms = ap (λ (q : Restriction). entry_of q.keys entry) same ∙ conforms }

  -- a text that passes has a truth value
  pub judgeable_truth : (j : Judgeable text list entry) → (b : Bool) × (worth j ≡ some (truth b))
  unfolding typed
  judgeable_truth j =
      judged j.passes.ks j.on (conforming j.passes.ks entry j.on j.conforms) j.passes.root
      (ap (λ a. a >>= root_type j.passes.root) j.passes.typed)

-- What a judgement says. It is refused exactly when the inputs do not `Fit`, and else the verdict of a bool that `read` finds in what they
-- come to.
module _ (Fit X : Type 0) (tell : Bool → X) (read : X → Bool) (reads : (b : Bool) → read (tell b) ≡ b) (answer : Answer Bool)
    (come : Fit → X) (answers : (j : Fit) → answer ≡ ok (read (come j))) (fits : (b : Bool) → answer ≡ ok b → Fit)
    (a_bool : (j : Fit) → (b : Bool) × (come j ≡ tell b)) (got : Judgement) (promised : judgement_says got ≡ answer) where
  said : (r : Judgement) → got ≡ r → answer ≡ judgement_says r
  said r e = sym promised ∙ ap judgement_says e

  refused_when : (r : Judgement) → got ≡ r → ¬ Fit → Refuses r
  refused_when (Ok Accepted) e unfit = absurd (unfit (fits true (said (Ok Accepted) e)))
  refused_when (Ok Violated) e unfit = absurd (unfit (fits false (said (Ok Violated) e)))
  refused_when (Err v) e unfit = (v, refl)

  not_fit : Refuses got → ¬ Fit
  not_fit (v, e) j = never_ok (sym (ap judgement_says e) ∙ promised ∙ answers j)

  pub refused_exactly : Refuses got ↔ ¬ Fit
  refused_exactly = (not_fit, refused_when got refl)

  pub told_exactly : (j : Fit) (b : Bool) → (got ≡ verdict b) ↔ (come j ≡ tell b)
  told_exactly j b =
      let (c, there) = a_bool j in
      let answered : answer ≡ ok c = answers j ∙ ap (λ x. ok (read x)) there ∙ ap (λ x. ok x) (reads c) in (
        λ e. there ∙ ap tell (ok_same c b (sym answered ∙ said (verdict b) e ∙ verdict_says b)),
        λ e.
            let same : c ≡ b = sym (reads c) ∙ ap read (sym there ∙ e) ∙ reads b in
            judgement_same got (verdict b) (promised ∙ answered ∙ ap (λ x. ok x) same ∙ sym (verdict_says b)),
      )

-- by what is promised of one call's result

pub read_right : (text : List ℕ) (r : Result ℕ Refusal) → ReadPromised text r → ReadRight text r
read_right text r promised n = (
  λ e. answer_formed text n (sym promised ∙ ap says e),
  λ (root, formed, same). says_same r (Ok n) (promised ∙ formed_answer text root formed ∙ ap (λ x. ok x) same),
)

pub checked_right : (text list : List ℕ) (r : Result (Unit {0}) Refusal) → CheckPromised text list r → CheckedRight text list r
checked_right text list r promised = (
  λ e. answer_checkable text list (sym promised ∙ ap says e),
  λ c. says_same r (Ok tt) (promised ∙ checkable_answer text list c),
)

pub judged_right : (text list entry : List ℕ) (r : Judgement) → JudgePromised text list entry r → JudgedRight text list entry r
judged_right text list entry r promised =
    let exactly =
    told_exactly (Judgeable text list entry) (Option Value) (λ b. some (truth b)) is_true (λ b. refl) (judge_answer text list entry)
    (worth text list entry) (judgeable_answer text list entry) (answer_judgeable text list entry) (judgeable_truth text list entry) r promised
    in
    record {
      refuses =
          refused_exactly (Judgeable text list entry) (Option Value) (λ b. some (truth b)) is_true (λ b. refl) (judge_answer text list entry)
          (worth text list entry) (judgeable_answer text list entry) (answer_judgeable text list entry) (judgeable_truth text list entry) r promised;
      accepts = λ j. exactly j true;
      violates = λ j. exactly j false;
    }

-- a translation: the restriction of a text that passes, and the test of the buffer
pub translated_right : (text list buffer : List ℕ) (r : TranslateResult) → TranslatePromised text list buffer r
    → TranslatedRight text list buffer r
translated_right text list buffer r promised n = (
  λ e.
      let answer = sym (translates text list buffer) ∙ sym promised.says ∙ ap says e in
      let (q, passed, rest) = bind_ok (restriction text list) (translating buffer) n answer in
      let (count, room) = translated buffer q n rest in
      let (c, same) = restriction_checkable text list q passed in
      record {
        passes = c;
        count =
            sym count
            ∙ counted text list q passed
            ∙ ap (λ (x : Restriction). nodes x.root + conversions x.keys x.root + joins x.root) (sym same);
        room = subst (λ (m : ℕ). block_size * blocks_needed m ≤ length buffer) count room;
      },
  λ t.
      let q = restricts text list t.passes in
      let passed = checkable_restriction text list t.passes in
      let count : length (code_of q.keys q.root) ≡ n = counted text list q passed ∙ sym t.count in
      says_same r.answer (Ok n)
      (promised.says ∙ translates text list buffer ∙ ap (λ x. x >>= translating buffer) passed
      ∙ rw (count, le-leb (block_size * blocks_needed n) (length buffer) t.room)),
)

pub explain_right : (text list entry : List ℕ) (r : Explanation) → ExplainPromised text list entry r → ExplainRight text list entry r
explain_right text list entry r promised = (explained_is_right text list entry (explanation_says r)).0 (sym promised)

-- a summary: that of the restriction of a text that passes

module _ (text list : List ℕ) (r : Result C.Summary Refusal) (promised : SummarizePromised text list r) where
  summary_checkable : (s : Summary) → summary_answer text list ≡ ok s → Checkable text list
  unfolding summary_answer
  summary_checkable s e =
      let made : Restriction → Summary = λ q. record { keys = set_of (names q.keys q.root); priority = marked q.root } in
      let (q, passed, _) = bind_ok (restriction text list) (λ q. ok (made q)) s e in
      (restriction_checkable text list q passed).0

  checkable_summary : (c : Checkable text list) → (s : Summary) × (summary_answer text list ≡ ok s) × Summarizes c.ks c.root s
  checkable_summary c =
      let q = restricts text list c in
      let passed = checkable_restriction text list c in
      (summary text list q passed, summary_there text list q passed, summarizes text list q passed)

  pub summarize_right : SummarizeRight text list r
  summarize_right =
      record {
        passes = (
          λ (keys, priority, e). summary_checkable (record { keys = keys; priority = priority }) (sym promised ∙ ap summarizing_says e),
          λ c.
              let (s, there, _) = checkable_summary c in
              (s.keys, s.priority, summarizing_same r (summed s.keys s.priority) (promised ∙ there)),
        );
        summary = λ keys priority e c.
            let (s, there, right) = checkable_summary c in
            let given : Summary = record { keys = keys; priority = priority } in
            subst (Summarizes c.ks c.root) (ok_same s given (sym there ∙ sym promised ∙ ap summarizing_says e)) right;
      }

-- a comparison: of a text that passes and blocks that load with the keys of its restriction

module _ (text list blocks : List ℕ) where
  abbrev with_rule : Comparable text list blocks → Q.Comparable text list blocks
  with_rule c =
      record {
        rule = restricts text list c.passes;
        passes = checkable_restriction text list c.passes;
        ps = c.ps;
        divided = c.divided;
        count = c.count;
        loads = c.loads;
      }

  answer_comparable : (b : Bool) → compare_answer text list blocks ≡ ok b → Comparable text list blocks
  answer_comparable b e =
      let q = comparable text list blocks b e in
      let (c, same) = restriction_checkable text list q.rule q.passes in
      record {
        passes = c;
        ps = q.ps;
        divided = q.divided;
        count = q.count;
        loads = ap (λ (r : Restriction). loaded r.keys blocks) same ∙ q.loads;
      }

  either_way : (r : Result Agreement Refusal) (b : Bool) → r ≡ agreement b → (r ≡ Ok Agrees) ⊎ (r ≡ Ok Differs)
  either_way r true e = inl e
  either_way r false e = inr e

  module _ (s : Bytes blocks) (r : Result Agreement Refusal) (promised : ComparePromised text list blocks r) where
    said_compared : (b : Bool) → r ≡ agreement b → compare_answer text list blocks ≡ ok b
    said_compared b e = sym promised ∙ ap agreement_says e ∙ agreement_says_lem b

    compared_said : (b : Bool) → compare_answer text list blocks ≡ ok b → r ≡ agreement b
    compared_said b e = agreement_same r (agreement b) (promised ∙ e ∙ sym (agreement_says_lem b))

    one_said : (r ≡ Ok Agrees) ⊎ (r ≡ Ok Differs) → Comparable text list blocks
    one_said (inl e) = answer_comparable true (said_compared true e)
    one_said (inr e) = answer_comparable false (said_compared false e)

    pub compare_right : CompareRight text list blocks r
    compare_right =
        record {
          compares = (one_said, λ c. let (b, e) = compared text list blocks (with_rule c) in either_way r b (compared_said b e));
          agrees = λ c.
              let (there, back) = agrees_exactly text list blocks s (with_rule c) in
              (λ e. there (said_compared true e), λ o. compared_said true (back o));
        }

  -- what a result that is right says

  module _ (s : Bytes blocks) (r : Result Agreement Refusal) (right : CompareRight text list blocks r) where
    right_agrees : Comparable text list blocks → (r ≡ Ok Agrees) ↔ (compare_answer text list blocks ≡ ok true)
    right_agrees c =
        let (there, back) = agrees_exactly text list blocks s (with_rule c) in
        let (ours, said) = right.agrees c in
        (λ e. back (ours e), λ e. said (there e))

    pub right_compared : (b : Bool) → compare_answer text list blocks ≡ ok b → r ≡ agreement b
    right_compared true e = (right_agrees (answer_comparable true e)).1 e
    right_compared false e = let c = answer_comparable false e in go (right_agrees c).0 (right.compares.1 c)
      where
        go : (r ≡ Ok Agrees → compare_answer text list blocks ≡ ok true) → (r ≡ Ok Agrees) ⊎ (r ≡ Ok Differs) → r ≡ Ok Differs
        go agreed (inl h) = absurd (true≢false (ok_same true false (sym (agreed h) ∙ e)))
        go agreed (inr h) = h

agreement_means : (p : Programs) → Kept p → (text list blocks : List ℕ) → Bytes text → Bytes list → Bytes blocks → AgreementMeans p text list blocks
agreement_means p kept text list blocks t l s e entry en =
    judgement_same (judgement_of_run (p.run list blocks entry)) (p.judge text list entry)
    (judgement_of_run_lem (p.run list blocks entry)
    ∙ ap verdict_of (kept.run list blocks entry l s en)
    ∙ agreement_means_equal text list blocks s (sym (kept.compare text list blocks t l s) ∙ ap agreement_says e) entry
    ∙ sym (kept.judge text list entry t l en))

-- a count: of a text that passes, its parts, and entries that are not too many

module _ (text list entries : List ℕ) where
  counts_there : (c : Countable text list entries) → countsThere text list entries ≡ ok (counts_in text list entries c)
  counts_there c =
      counted_there text list entries (restricts text list c.passes) (checkable_restriction text list c.passes) c.ps c.divided c.few

  pub countable_answer : (c : Countable text list entries) → count_answer text list entries ≡ ok (totals_of (counts_in text list entries c))
  unfolding count_answer
  countable_answer c = ap (λ x. x >>= λ d. ok (totals_of d)) (counts_there c)

  countable_numbers : (numbers : List ℕ) (c : Countable text list entries)
      → count_numbers text list entries numbers ≡ over (counts_in text list entries c).parts numbers
  unfolding count_numbers
  countable_numbers numbers c = ap (λ x. noted x numbers) (counts_there c)

  pub answer_countable : (t : Totals) → count_answer text list entries ≡ ok t → Countable text list entries
  unfolding count_answer
  answer_countable t e =
      let (d, there, _) = bind_ok (countsThere text list entries) (λ d. ok (totals_of d)) t e in
      let q = counted_from text list entries d there in
      let (c, same) = restriction_checkable text list q.rule q.passes in
      record {
        passes = c;
        ps = q.ps;
        divided = q.divided;
        few = subst (λ (x : Restriction). whole_in x.keys entries ≤ most_entries) (sym same) q.few;
      }

  refused_else : (a : Result Counted Refusal) → counting_says a ≡ count_answer text list entries → ¬ Countable text list entries
      → (v : Refusal) × (a ≡ Err v)
  refused_else (Ok t) says unfit = absurd (unfit (answer_countable _ (sym says)))
  refused_else (Err v) says unfit = (v, refl)

  pub count_right : (numbers : List ℕ) (r : CountResult) → CountPromised text list entries numbers r → CountRight text list entries numbers r
  count_right numbers r promised =
      record {
        refuses = (
          λ (v, e) c. never_ok (sym (ap counting_says e) ∙ promised.says ∙ countable_answer c),
          refused_else r.answer promised.says,
        );
        totals = λ c. promised.says ∙ countable_answer c;
        written = λ c. promised.holds ∙ countable_numbers numbers c;
      }

-- a table: of blocks that load, whole entries, and answers for all of them

module _ (list blocks entries answers : List ℕ) where
  abbrev CanRun : Type 0
  CanRun = AllRunnable list blocks entries answers

  runnable_totals : (j : CanRun) → run_all_answer list blocks entries answers ≡ ok (all_ran (verdicts_in list blocks entries answers j))
  unfolding run_all_answer
  runnable_totals j = ap (λ x. x >>= λ v. ok (all_ran v)) (ran_all_lem list blocks entries answers j)

  runnable_bytes : (j : CanRun) → run_all_bytes list blocks entries answers ≡ over (verdicts_in list blocks entries answers j).bytes answers
  unfolding run_all_bytes
  runnable_bytes j = ap (λ x. answered x answers) (ran_all_lem list blocks entries answers j)

  totals_runnable : (a : AllRan) → run_all_answer list blocks entries answers ≡ ok a → CanRun
  unfolding run_all_answer
  totals_runnable a e =
      let (v, there, _) = bind_ok (ran_all list blocks entries answers) (λ v. ok (all_ran v)) a e in
      (all_runnable list blocks entries answers v there).0

  refused_unless : (a : Result RanAll Refusal) → running_all_says a ≡ run_all_answer list blocks entries answers → ¬ CanRun
      → (v : Refusal) × (a ≡ Err v)
  refused_unless (Ok t) says unfit = absurd (unfit (totals_runnable _ (sym says)))
  refused_unless (Err v) says unfit = (v, refl)

  pub run_all_right : (r : RunAllResult) → RunAllPromised list blocks entries answers r → RunAllRight list blocks entries answers r
  run_all_right r promised =
      record {
        refuses = (
          λ (v, e) j. never_ok (sym (ap running_all_says e) ∙ promised.says ∙ runnable_totals j),
          refused_unless r.answer promised.says,
        );
        totals = λ j. promised.says ∙ runnable_totals j;
        written = λ j. promised.holds ∙ runnable_bytes j;
      }

-- a recheck: what it says is what the judgement in it says

said_in : (r : Rechecking) → judgement_says (judgement_in r) ≡ said_by (rechecking_says r)
said_in (K.Reused j) = refl
said_in (K.Judged j) = refl

pub recheck_right : (text list old : List ℕ) (earlier : Judgement) (new : List ℕ) (r : Rechecking)
    → RecheckPromised text list old earlier new r → RecheckRight text list old earlier new r
recheck_right text list old earlier new r promised =
    record {
      rechecks = (reused_exactly text list old (judgement_says earlier) new (rechecking_says r)).0 (sym promised);
      judges = λ j e.
          let judged_so = subst (RecheckPromised text list old earlier new) e promised in
          judged_right text list new j (recheck_judged text list old earlier new j judged_so);
      fresh = λ true-then.
          said_in r ∙ ap said_by promised ∙ fresh_if_true text list old new (judgement_says earlier) true-then;
    }

pub demand_two_met : DemandTwoMet
demand_two_met p kept =
    record {
      reads = λ text t. read_right text (p.read text) (kept.read text t);
      checks = λ text list t l. checked_right text list (p.check text list) (kept.check text list t l);
      judges = λ text list entry t l e. judged_right text list entry (p.judge text list entry) (kept.judge text list entry t l e);
      translates = λ text list buffer t l b.
          translated_right text list buffer (p.translate text list buffer) (kept.translate text list buffer t l b);
      prints = λ text buffer t b. printed_right text buffer (p.print text buffer) (kept.print text buffer t b);
      explains = λ text list entry t l e. explain_right text list entry (p.explain text list entry) (kept.explain text list entry t l e);
      summarizes = λ text list t l. summarize_right text list (p.summarize text list) (kept.summarize text list t l);
      rechecks = λ text list old earlier new t l o n.
          recheck_right text list old earlier new (p.recheck text list old earlier new) (kept.recheck text list old earlier new t l o n);
      runs = λ list blocks entry l s e. ran_right list blocks entry (p.run list blocks entry) (kept.run list blocks entry l s e);
      fixes = λ text buffer t b. fixes_right text buffer (p.fix text buffer) (kept.fix text buffer t b);
      drafts = λ contract table list buffer c t l b.
          drafts_right contract table list buffer (p.draft contract table list buffer) (kept.draft contract table list buffer c t l b);
      drafts_mean = draft_means p kept;
      compares = λ text list blocks t l s. compare_right text list blocks s (p.compare text list blocks) (kept.compare text list blocks t l s);
      agreement_means = agreement_means p kept;
      counts = λ text list entries numbers t l e n.
          count_right text list entries numbers (p.count text list entries numbers) (kept.count text list entries numbers t l e n);
      runs_all = λ list blocks entries answers l s e a.
          run_all_right list blocks entries answers (p.run_all list blocks entries answers) (kept.run_all list blocks entries answers l s e a);
    }
