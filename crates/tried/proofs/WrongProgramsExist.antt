-- The wrong programs are real: each is made from programs that keep all promises, with another in the place of one call.
use Prim.Native.Nat.{ℕ, suc, ◌+◌, ◌*◌}
use Rattle.paper.specs.declared.Verdict.{Verdict}
use Rattle.std.specs.Prelude.{Result, Ok, Err}
use Rattle.paper.specs.declared.Refusal.{Refusal}
use Rattle.paper.specs.declared.Ended.{Ended}
use Rattle.paper.specs.declared.Verdict.TheVariants.{Accepted, Violated}
use native.Mathlib.Omega.{arith}
use mathlib.Core.Path.{◌≡◌, refl, sym, ap, subst, ◌∙◌}
use mathlib.Core.Bool.{Bool, true, false, cond}
use mathlib.Core.List.{List, [], ◌∷◌, ◌++◌}
use lib.ListN.{length}
use lib.Dec.{ltb}
use borrow.Author.Tests.{lt-ltb, le-leb}
use Rattle.paper.specs.declared.Place.TheVariants as P
use Rattle.paper.specs.declared.Explanation.{Explanation}
use Rattle.paper.specs.Answers.{Answer, ok, refused, ◌>>=◌, refusal, Judgement, ended}
use Rattle.paper.specs.Tokens.{bytes, is, most_text}
use Rattle.paper.specs.Keys.{keys}
use Rattle.paper.specs.Entry.{entry_of}
use Rattle.paper.specs.Blocks.{block_size, most_blocks, total_of, layout}
use Rattle.paper.specs.Loading.{program, load_check, loaded}
use Rattle.paper.specs.Grammar as G
use Rattle.paper.specs.Grammar.{Tree, nodes}
use Rattle.paper.specs.Translating.{conversions, joins}
use Rattle.paper.specs.Calls.{sized, tree, Restriction, restriction, over, lends}
use Rattle.paper.specs.Explained.{Reason, key_index, explanation_says}
use Rattle.paper.specs.Promised.{verdict_in, judgement_of_run, TranslateResult, PrintResult, Bytes, Programs, Kept, verdict_for}
use Rattle.paper.specs.Demands.{blocks_written}
use Rattle.tried.specs.WrongPrints.{without_parentheses, with_all_parentheses, with_and_for_sequel, in_decimal, addresses_in_hex}
use Rattle.tried.specs.WrongExplainers.{Explainer, Names}
use Rattle.tried.specs.WrongRecheckers.{Rechecker, Summarizer}
use Rattle.tried.specs.WrongRunners.{Runner, keeping_answer, LeavesOldBool, heights_from, Loader, ComparesHeights}
use Rattle.tried.specs.WrongFixers.{Fixer}
use Rattle.paper.specs.BitsKept.{ComparisonRule, rule_before}
use Rattle.tried.specs.WrongCheckers.{Checker, TypesBy, right_alone, at_operator, above_zero}
use Rattle.tried.specs.WrongDrafters.{Drafter, Maker, Makes, last_made, right_made, inclusive_made, and_made}
use Rattle.tried.specs.WrongComparers.{Comparer, Rule, SaysBy, agreed, differing, from_front}
use Rattle.tried.specs.WrongCounters as E
use Rattle.tried.specs.WrongCounters.{Counter, NumbersBy, first_only, with_refused, along_spine}
use Rattle.tried.specs.WrongTables as Q
use Rattle.tried.specs.WrongTables.{TableRunner, WritesBy, first_for_all, until_refused, clearing_later, refused_as_violated}
use Rattle.tried.specs.WrongPrograms.{FirstPartOnly, WantsAllBlocks, StepsByCode, CountsRight, Lends, part_of, checking, judging, translating, loading, running, printing, explaining, summarizing, rechecking, fixing, drafting, comparing, totalling, tabling, OthersKept, ThereIs, WrongProgramsExist}
use Rattle.paper.proofs.Promised.{place_at, explanation_for, says_same, can_be_kept}
use Rattle.paper.proofs.ByteLists.{zero_bytes, all_bytes_lem}
use Rattle.paper.proofs.LoadedBlocksRun.{load_counts}
use Rattle.paper.proofs.RunsRight.{ran_right}
use Rattle.paper.proofs.DemandTwo.{demand_two_met}
use Rattle.paper.proofs.DemandThree.{demand_three_met}
use Rattle.tried.proofs.WrongExplainersExist.{wrong_explainers_exist}
use Rattle.tried.proofs.WrongRecheckersExist.{never_real, always_real, equal_real, unranked_real, readings_real, priority_counted_real, fields_missed_real}
use Rattle.tried.proofs.WrongFixersExist.{strings_real, comments_real, dropped_real, zeros_real}
use Rattle.tried.proofs.WrongCheckers.{checker_real}
use Rattle.tried.proofs.WrongDrafters.{drafter_real}
use Rattle.tried.proofs.WrongComparersExist.{comparer_real, twice_real, shape_real}
use Rattle.tried.proofs.WrongCountersExist.{counter_real, cut_real}
use Rattle.tried.proofs.WrongTablesExist.{writer_real, stepper_real, padder_real}
use Rattle.tried.proofs.WrongPrograms.{little, plain_written}

-- a program that cuts: it translates what stands before the first ";"

part_first : (first rest : List ℕ) → part_of first ≡ first → part_of (first ++ bytes ";" ++ rest) ≡ first
part_first [] rest e = refl
part_first (b ∷ s) rest e = go (is ";" b) refl (part_first s rest) e
  where
    go : (t : Bool) → is ";" b ≡ t → (part_of s ≡ s → part_of (s ++ bytes ";" ++ rest) ≡ s) → cond t [] (b ∷ part_of s) ≡ b ∷ s
        → cond t [] (b ∷ part_of (s ++ bytes ";" ++ rest)) ≡ b ∷ s
    go true h k e = e
    go false h k e = ap (λ x. b ∷ x) (k (shorter e))
      where
        shorter : b ∷ part_of s ≡ b ∷ s → part_of s ≡ s
        shorter f = cc

-- its restriction, and the count of its instructions
abbrev plain : Restriction
plain = record { keys = []; root = G.truth 0 true }

plain_restricts : restriction (bytes "true") [] ≡ ok plain
unfolding restriction
plain_restricts = refl

plain_counts : nodes plain.root + conversions plain.keys plain.root + joins plain.root ≡ 1
unfolding conversions
plain_counts = refl

-- each wrong program is one that keeps all promises but that of one call

module _ (q : Programs) (kept : Kept q) where
  -- with another check, or other calls of 02 l and m and since
  abbrev with_checks : Checker → Comparer → Counter → TableRunner → Programs
  with_checks check compare count run_all =
      record {
        read = q.read;
        check = check;
        judge = q.judge;
        translate = q.translate;
        load = q.load;
        run = q.run;
        print = q.print;
        explain = q.explain;
        summarize = q.summarize;
        recheck = q.recheck;
        fix = q.fix;
        draft = q.draft;
        compare = compare;
        count = count;
        run_all = run_all;
      }

  -- with another check
  checkers : Checker → Programs
  checkers check = with_checks check q.compare q.count q.run_all

  others_than_check : (check : Checker) → OthersKept checking (checkers check)
  unfolding checkers
  others_than_check check = (
    (kept.read, kept.judge, kept.translate, kept.load, kept.run),
    (kept.print, kept.explain, kept.summarize, kept.recheck, kept.fix, kept.draft, kept.compare, kept.count, kept.run_all),
  )

  -- one that types by a rule of its own
  there_checks : (rule : ComparisonRule) → ThereIs (λ p. TypesBy rule p.check) checking
  unfolding checkers
  there_checks rule =
      let (x, types) = checker_real rule in
      (checkers x, types, others_than_check x)

  -- with other calls of document 01, or another printer
  abbrev with_calls : (List ℕ → List ℕ → List ℕ → Judgement) → (List ℕ → List ℕ → List ℕ → TranslateResult) → Loader → Runner
      → (List ℕ → List ℕ → PrintResult) → Programs
  with_calls judge translate load run print =
      record {
        read = q.read;
        check = q.check;
        judge = judge;
        translate = translate;
        load = load;
        run = run;
        print = print;
        explain = q.explain;
        summarize = q.summarize;
        recheck = q.recheck;
        fix = q.fix;
        draft = q.draft;
        compare = q.compare;
        count = q.count;
        run_all = q.run_all;
      }

  -- with other calls of 02 c, f, h and k
  abbrev with_answers : (List ℕ → List ℕ → List ℕ → Explanation) → Summarizer → Rechecker → Fixer → Drafter → Programs
  with_answers explain summarize recheck fix draft =
      record {
        read = q.read;
        check = q.check;
        judge = q.judge;
        translate = q.translate;
        load = q.load;
        run = q.run;
        print = q.print;
        explain = explain;
        summarize = summarize;
        recheck = recheck;
        fix = fix;
        draft = draft;
        compare = q.compare;
        count = q.count;
        run_all = q.run_all;
      }

  -- with another judge
  judges : (List ℕ → List ℕ → List ℕ → Judgement) → Programs
  judges judge = with_calls judge q.translate q.load q.run q.print

  others_than_judge : (judge : List ℕ → List ℕ → List ℕ → Judgement) → OthersKept judging (judges judge)
  unfolding judges
  others_than_judge judge = (
    (kept.read, kept.check, kept.translate, kept.load, kept.run),
    (kept.print, kept.explain, kept.summarize, kept.recheck, kept.fix, kept.draft, kept.compare, kept.count, kept.run_all),
  )

  -- with another translator
  translators : (List ℕ → List ℕ → List ℕ → TranslateResult) → Programs
  translators translate = with_calls q.judge translate q.load q.run q.print

  others_than_translate : (translate : List ℕ → List ℕ → List ℕ → TranslateResult) → OthersKept translating (translators translate)
  unfolding translators
  others_than_translate translate = (
    (kept.read, kept.check, kept.judge, kept.load, kept.run),
    (kept.print, kept.explain, kept.summarize, kept.recheck, kept.fix, kept.draft, kept.compare, kept.count, kept.run_all),
  )

  -- with another loader
  loaders : (List ℕ → List ℕ → Result ℕ Refusal) → Programs
  loaders load = with_calls q.judge q.translate load q.run q.print

  others_than_load : (load : List ℕ → List ℕ → Result ℕ Refusal) → OthersKept loading (loaders load)
  unfolding loaders
  others_than_load load = (
    (kept.read, kept.check, kept.judge, kept.translate, kept.run),
    (kept.print, kept.explain, kept.summarize, kept.recheck, kept.fix, kept.draft, kept.compare, kept.count, kept.run_all),
  )

  -- with another run
  runners : Runner → Programs
  runners run = with_calls q.judge q.translate q.load run q.print

  others_than_run : (run : Runner) → OthersKept running (runners run)
  unfolding runners
  others_than_run run = (
    (kept.read, kept.check, kept.judge, kept.translate, kept.load),
    (kept.print, kept.explain, kept.summarize, kept.recheck, kept.fix, kept.draft, kept.compare, kept.count, kept.run_all),
  )

  -- with another printer
  printers : (List ℕ → List ℕ → PrintResult) → Programs
  printers print = with_calls q.judge q.translate q.load q.run print

  others_than_print : (print : List ℕ → List ℕ → PrintResult) → OthersKept printing (printers print)
  unfolding printers
  others_than_print print = (
    (kept.read, kept.check, kept.judge, kept.translate, kept.load, kept.run),
    (kept.explain, kept.summarize, kept.recheck, kept.fix, kept.draft, kept.compare, kept.count, kept.run_all),
  )

  -- with another explainer
  explainers : (List ℕ → List ℕ → List ℕ → Explanation) → Programs
  explainers explain = with_answers explain q.summarize q.recheck q.fix q.draft

  others_than_explain : (explain : List ℕ → List ℕ → List ℕ → Explanation) → OthersKept explaining (explainers explain)
  unfolding explainers
  others_than_explain explain = (
    (kept.read, kept.check, kept.judge, kept.translate, kept.load, kept.run),
    (kept.print, kept.summarize, kept.recheck, kept.fix, kept.draft, kept.compare, kept.count, kept.run_all),
  )

  -- with another summary
  summarizers : Summarizer → Programs
  summarizers summarize = with_answers q.explain summarize q.recheck q.fix q.draft

  others_than_summarize : (summarize : Summarizer) → OthersKept summarizing (summarizers summarize)
  unfolding summarizers
  others_than_summarize summarize = (
    (kept.read, kept.check, kept.judge, kept.translate, kept.load, kept.run),
    (kept.print, kept.explain, kept.recheck, kept.fix, kept.draft, kept.compare, kept.count, kept.run_all),
  )

  -- with another recheck
  recheckers : Rechecker → Programs
  recheckers recheck = with_answers q.explain q.summarize recheck q.fix q.draft

  others_than_recheck : (recheck : Rechecker) → OthersKept rechecking (recheckers recheck)
  unfolding recheckers
  others_than_recheck recheck = (
    (kept.read, kept.check, kept.judge, kept.translate, kept.load, kept.run),
    (kept.print, kept.explain, kept.summarize, kept.fix, kept.draft, kept.compare, kept.count, kept.run_all),
  )

  -- with another pass
  fixers : Fixer → Programs
  fixers fix = with_answers q.explain q.summarize q.recheck fix q.draft

  others_than_fix : (fix : Fixer) → OthersKept fixing (fixers fix)
  unfolding fixers
  others_than_fix fix = (
    (kept.read, kept.check, kept.judge, kept.translate, kept.load, kept.run),
    (kept.print, kept.explain, kept.summarize, kept.recheck, kept.draft, kept.compare, kept.count, kept.run_all),
  )

  -- with another translation of contracts
  drafters : Drafter → Programs
  drafters draft = with_answers q.explain q.summarize q.recheck q.fix draft

  others_than_draft : (draft : Drafter) → OthersKept drafting (drafters draft)
  unfolding drafters
  others_than_draft draft = (
    (kept.read, kept.check, kept.judge, kept.translate, kept.load, kept.run),
    (kept.print, kept.explain, kept.summarize, kept.recheck, kept.fix, kept.compare, kept.count, kept.run_all),
  )

  -- with another comparison
  comparers : Comparer → Programs
  comparers compare = with_checks q.check compare q.count q.run_all

  others_than_compare : (compare : Comparer) → OthersKept comparing (comparers compare)
  unfolding comparers
  others_than_compare compare = (
    (kept.read, kept.check, kept.judge, kept.translate, kept.load, kept.run),
    (kept.print, kept.explain, kept.summarize, kept.recheck, kept.fix, kept.draft, kept.count, kept.run_all),
  )

  -- one that goes by a rule of its own
  there_compares : (rule : Rule) → ThereIs (λ p. SaysBy rule p.compare) comparing
  unfolding comparers
  there_compares rule =
      let (x, says) = comparer_real rule in
      (comparers x, says, others_than_compare x)

  -- with another count
  counters : Counter → Programs
  counters count = with_checks q.check q.compare count q.run_all

  others_than_count : (count : Counter) → OthersKept totalling (counters count)
  unfolding counters
  others_than_count count = (
    (kept.read, kept.check, kept.judge, kept.translate, kept.load, kept.run),
    (kept.print, kept.explain, kept.summarize, kept.recheck, kept.fix, kept.draft, kept.compare, kept.run_all),
  )

  -- one that numbers the parts by a rule of its own
  there_counts : (rule : E.Rule) → ThereIs (λ p. NumbersBy rule p.count) totalling
  unfolding counters
  there_counts rule =
      let (x, says) = counter_real rule q.count in
      (counters x, says, others_than_count x)

  -- with another way with tables
  tables : TableRunner → Programs
  tables run_all = with_checks q.check q.compare q.count run_all

  others_than_table : (run_all : TableRunner) → OthersKept tabling (tables run_all)
  unfolding tables
  others_than_table run_all = (
    (kept.read, kept.check, kept.judge, kept.translate, kept.load, kept.run),
    (kept.print, kept.explain, kept.summarize, kept.recheck, kept.fix, kept.draft, kept.compare, kept.count),
  )

  -- one that writes its answers by a rule of its own
  there_writes : (rule : Q.Rule) → ThereIs (λ p. WritesBy rule p.run_all) tabling
  unfolding tables
  there_writes rule =
      let (x, writes) = writer_real rule q.run_all in
      (tables x, writes, others_than_table x)

  -- one that makes a tree of its own
  there_drafts : (made : Maker) → ThereIs (λ p. Makes made p.draft) drafting
  unfolding drafters
  there_drafts made =
      let (x, makes) = drafter_real made in
      (drafters x, makes, others_than_draft x)

  -- the one that translates what stands before the first ";"

  cutter : List ℕ → List ℕ → List ℕ → TranslateResult
  cutter text list buffer = q.translate (part_of text) list buffer

  cutter_cuts : FirstPartOnly (translators cutter)
  unfolding translators cutter
  cutter_cuts first rest list buffer f s l b whole _ _ n e entry en =
      subst
      (λ (x : List ℕ).
      (q.translate x list buffer).answer ≡ Ok n
      → judgement_of_run (q.run list (blocks_written n (q.translate x list buffer).buffer) entry) ≡ q.judge first list entry)
      (sym (part_first first rest whole))
      (λ w. (demand_three_met q kept).runs_alike first list buffer f l b n w entry en) e

  -- the one that wants as many blocks as load

  greedy : List ℕ → List ℕ → List ℕ → TranslateResult
  greedy text list buffer =
      cond (ltb (length buffer) (most_blocks * block_size))
      (record { answer = refusal 15 (P.Buffer (length buffer)); buffer = buffer })
      (q.translate text list buffer)

  greedy_wants : WantsAllBlocks (translators greedy)
  unfolding translators greedy
  greedy_wants text list buffer t l b few = (record { number = 15; place = P.Buffer (length buffer) }, rw (lt-ltb (length buffer) (most_blocks * block_size) few))

  -- the one that counts an instruction more

  abbrev one_more : Result ℕ Refusal → Result ℕ Refusal
  one_more (Ok n) = Ok (suc n)
  one_more (Err v) = Err v

  inventor : List ℕ → List ℕ → List ℕ → TranslateResult
  inventor text list buffer =
      let r = q.translate text list buffer in
      record { answer = one_more r.answer; buffer = r.buffer }

  inventor_invents : ¬ CountsRight (translators inventor)
  unfolding translators inventor
  inventor_invents right =
      let t : Bytes (bytes "true") = all_bytes_lem (bytes "true") refl in
      let b : Bytes little = zero_bytes 512 in
      let one = says_same (q.translate (bytes "true") [] little).answer (Ok 1) ((kept.translate (bytes "true") [] little t tt b).says ∙ plain_written) in
      let two = right (bytes "true") [] little t tt b 2 (ap one_more one) plain plain_restricts in
      omega (arith, two, plain_counts)

  -- one that lends other bytes than the print, by the stages of `print`

  abbrev lent : Answer (List ℕ) → List ℕ → PrintResult
  lent (ok s) buffer = record { answer = Ok (length s); buffer = over s buffer }
  lent (refused n i at) buffer = record { answer = refusal n (place_at i at); buffer = buffer }

  lender : (List ℕ → Tree → List ℕ) → List ℕ → List ℕ → PrintResult
  lender made text buffer = lent (sized text >>= λ _. tree text >>= λ t. lends (made text t) buffer) buffer

  lender_lends : (made : List ℕ → Tree → List ℕ) → Lends made (printers (lender made))
  unfolding printers lender
  lender_lends made text buffer _ _ short t read few room =
      rw (
        le-leb (length text) most_text short,
        read,
        le-leb (length (made text t)) most_text few,
        le-leb (length (made text t)) (length buffer) room,
      )

  there_is : (made : List ℕ → Tree → List ℕ) → ThereIs (Lends made) printing
  there_is made = (printers (lender made), lender_lends made, others_than_print (lender made))

  -- the one that reports the instructions of the code

  abbrev in_steps : ℕ → Result Ended Refusal → Result Ended Refusal
  in_steps n (Ok e) = ended e.verdict n
  in_steps n (Err v) = Err v

  bool_for : (v : Verdict) → (b : Bool) × (v ≡ verdict_for b)
  bool_for Accepted = (true, refl)
  bool_for Violated = (false, refl)

  counter : Runner
  counter list blocks entry = in_steps (total_of blocks) (q.run list blocks entry)

  counter_reports : StepsByCode (runners counter)
  unfolding runners counter
  counter_reports list blocks entry l s e j = go (q.run list blocks entry) refl
    where
      go : (r : Result Ended Refusal) → q.run list blocks entry ≡ r → (b : Bool) × (in_steps (total_of blocks) r ≡ verdict_in b j.count)
      go (Ok e) h =
          let (b, same) = bool_for e.verdict in
          (b, ap (λ (v : Verdict). ended v (total_of blocks)) same ∙ ap (ended (verdict_for b)) (sym (load_counts j.ks blocks j.count j.loads)))
      go (Err v) h = absurd ((ran_right list blocks entry _ (kept.run list blocks entry l s e)).refuses.0 (v, h) j)

-- the one whose skips leave the old bool, by the stages of `run`

abbrev ran_for : Answer (Result Ended Refusal) → Result Ended Refusal
ran_for (ok r) = r
ran_for (refused n i at) = refusal n (place_at i at)

keeper : Runner
keeper list blocks entry =
    ran_for (keys list >>= λ ks. loaded ks blocks >>= λ _. entry_of ks entry >>= λ e. ok (keeping_answer ks e blocks))

keeper_keeps : LeavesOldBool keeper
unfolding keeper
keeper_keeps list blocks entry _ _ _ j = rw (j.listed, j.loads, j.conforms)

-- the one that compares heights, by the stages of `load`

abbrev loaded_for : Answer ℕ → Result ℕ Refusal
loaded_for (ok n) = Ok n
loaded_for (refused n i at) = refusal n (place_at i at)

leveler : Loader
leveler list blocks =
    loaded_for
    (keys list
    >>= λ ks. layout (length ks) blocks
    >>= λ _. load_check (length blocks) (heights_from ks 0 (program blocks) [])
    >>= λ _. ok (total_of blocks))

leveler_compares : ComparesHeights leveler
unfolding leveler
leveler_compares list blocks _ _ ks listed laid high = (total_of blocks, rw (listed, laid, high))

-- the wrong explainers, each in the words of the enum

abbrev worded : Explainer → List ℕ → List ℕ → List ℕ → Explanation
worded x text list entry = explanation_for (x text list entry)

names_worded : (n : ℕ) (r : Reason) → Names n r → Names n (explanation_says (explanation_for r))
names_worded n r (place, s, e) = (place, s, ap (λ (x : Reason). explanation_says (explanation_for x)) e)

pub wrong_programs_exist : WrongProgramsExist
unfolding judges translators loaders runners explainers summarizers recheckers fixers comparers counters tables
wrong_programs_exist =
    let (q, kept) = can_be_kept in
    let refuses : List ℕ → List ℕ → List ℕ → Judgement = λ text list entry. refusal 20 (P.Entry 0) in
    let accepts : List ℕ → List ℕ → List ℕ → Judgement = λ text list entry. (Ok Accepted) in
    let idles : List ℕ → List ℕ → List ℕ → TranslateResult = λ text list buffer.
    record { answer = (q.translate text list buffer).answer; buffer = buffer }
    in
    let bars : List ℕ → List ℕ → Result ℕ Refusal = λ list blocks. refusal 18 (P.Blocks 0) in
    let admits : List ℕ → List ℕ → Result ℕ Refusal = λ list blocks. Ok (total_of blocks) in
    record {
      refusing = (
        judges q kept refuses,
        λ text list entry _ _ _. (record { number = 20; place = P.Entry 0 }, refl),
        others_than_judge q kept refuses,
      );
      accepting = (judges q kept accepts, λ text list entry _ _ _. refl, others_than_judge q kept accepts);
      idle = (translators q kept idles, λ text list buffer _ _ _. refl, others_than_translate q kept idles);
      cutting = (translators q kept (cutter q kept), cutter_cuts q kept, others_than_translate q kept (cutter q kept));
      barring = (loaders q kept bars, λ list blocks _ _. (record { number = 18; place = P.Blocks 0 }, refl), others_than_load q kept bars);
      admitting = (loaders q kept admits, λ list blocks _ _ _ _ _. (total_of blocks, refl), others_than_load q kept admits);
      wanting = (translators q kept (greedy q kept), greedy_wants q kept, others_than_translate q kept (greedy q kept));
      counting = (translators q kept (inventor q kept), inventor_invents q kept, others_than_translate q kept (inventor q kept));
      copying = there_is q kept (λ text t. text);
      leaving = there_is q kept (λ text t. without_parentheses t);
      enclosing = there_is q kept (λ text t. with_all_parentheses t);
      confusing = there_is q kept (λ text t. with_and_for_sequel t);
      forgetting = there_is q kept (λ text t. in_decimal t);
      rewriting = there_is q kept addresses_in_hex;
      naming_last =
          let (x, names, _) = wrong_explainers_exist.last_part in (
            explainers q kept (worded x),
            λ text list entry v before after p split fails held.
                names_worded p.number (x text list entry) (names text list entry v before after p split fails held),
            others_than_explain q kept (worded x),
          );
      following_spine =
          let (x, follows, _) = wrong_explainers_exist.left_spine in (
            explainers q kept (worded x),
            λ text list entry v before after t split held fails.
                names_worded (suc (length before)) (x text list entry) (follows text list entry v before after t split held fails),
            others_than_explain q kept (worded x),
          );
      showing_key =
          let (x, shows, _) = wrong_explainers_exist.key_for_priority in (
            explainers q kept (worded x),
            λ text list entry lendable judged.
                let (place, k, s, e) = shows text list entry lendable judged in
                (place, key_index place, s, ap (λ (r : Reason). explanation_says (explanation_for r)) e),
            others_than_explain q kept (worded x),
          );
      never_reusing = let (x, never) = never_real in (recheckers q kept x, never, others_than_recheck q kept x);
      always_reusing = let (x, always) = always_real in (recheckers q kept x, always, others_than_recheck q kept x);
      wanting_equals = let (x, wants) = equal_real in (recheckers q kept x, wants, others_than_recheck q kept x);
      forgetting_priority = let (x, forgets) = unranked_real in (recheckers q kept x, forgets, others_than_recheck q kept x);
      comparing_readings = let (x, compares) = readings_real in (recheckers q kept x, compares, others_than_recheck q kept x);
      counting_priority = let (x, counts) = priority_counted_real in (summarizers q kept x, counts, others_than_summarize q kept x);
      missing_fields = let (x, misses) = fields_missed_real in (summarizers q kept x, misses, others_than_summarize q kept x);
      steps_by_code = (runners q kept (counter q kept), counter_reports q kept, others_than_run q kept (counter q kept));
      keeping_bool = (runners q kept keeper, keeper_keeps, others_than_run q kept keeper);
      landing_by_height = (loaders q kept leveler, leveler_compares, others_than_load q kept leveler);
      fixing_strings = let (x, changes) = strings_real q.fix in (fixers q kept x, changes, others_than_fix q kept x);
      fixing_comments = let (x, changes) = comments_real q.fix in (fixers q kept x, changes, others_than_fix q kept x);
      fixing_with_zeros = let (x, keeps) = zeros_real q.fix in (fixers q kept x, keeps, others_than_fix q kept x);
      fixing_to_decimal = let (x, drops) = dropped_real q.fix in (fixers q kept x, drops, others_than_fix q kept x);
      reducing_still = there_checks q kept rule_before;
      looking_right = there_checks q kept right_alone;
      placing_at_operator = there_checks q kept at_operator;
      taking_none_below = there_checks q kept above_zero;
      inverting_last = there_drafts q kept last_made;
      joining_right = there_drafts q kept right_made;
      taking_inclusive = there_drafts q kept inclusive_made;
      joining_by_and = there_drafts q kept and_made;
      always_agreeing = there_compares q kept agreed;
      always_differing = there_compares q kept differing;
      matching_from_front = there_compares q kept from_front;
      using_twice = let (x, uses) = twice_real in (comparers q kept x, uses, others_than_compare q kept x);
      ignoring_shape = let (x, ignores) = shape_real in (comparers q kept x, ignores, others_than_compare q kept x);
      counting_first = there_counts q kept first_only;
      counting_refused = there_counts q kept with_refused;
      counting_by_spine = there_counts q kept along_spine;
      counting_cut =
          let (x, counts) = cut_real q.count (demand_two_met q kept).counts in (counters q kept x, counts, others_than_count q kept x);
      judging_first = there_writes q kept first_for_all;
      stopping_at_refused = there_writes q kept until_refused;
      clearing_later_lem = there_writes q kept clearing_later;
      telling_violated = there_writes q kept refused_as_violated;
      telling_last_steps =
          let (x, tells) = stepper_real q.run_all (demand_two_met q kept).runs_all in (tables q kept x, tells, others_than_table q kept x);
      taking_cut =
          let (x, takes) = padder_real q.run_all (demand_two_met q kept).runs_all in (tables q kept x, takes, others_than_table q kept x);
    }
