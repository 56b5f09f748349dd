-- The wrong programs fail, each at an input: the cases 2 and 7 of the marked judgements, `true` with no keys, `true; v == 0`, for printers
-- `a;b`, `!(a==b)`, `0x10` and `ipv4('0.0.0.16')`, for explainers the texts of WrongExplainers, for summaries and rechecks those of
-- WrongRecheckers, for ways with skips the blocks of WrongRunners, for passes and checkers the texts of WrongFixers and WrongCheckers, for
-- translations the contracts of WrongDrafters, for comparisons the texts and blocks of WrongComparers, for counts the files of WrongCounters, and for
-- tables those of WrongTables.
use Prim.Native.Nat.{ℕ, zero, suc, ◌+◌, ◌*◌, ◌≤◌}
use Rattle.std.specs.Prelude.{Ok}
use Rattle.paper.specs.declared.Verdict.TheVariants.{Accepted, Violated}
use native.Mathlib.Omega.{arith}
use mathlib.Core.Path.{◌≡◌, refl, sym, ap, subst, ◌∙◌}
use mathlib.Core.Bool.{Bool, true, false, true≢false}
use mathlib.Core.Option.{some}
use mathlib.Core.List.{List, [], ◌∷◌}
use lib.ListN.{length, take, replicate, length-replicate}
use lib.Dec.{leb, lit<}
use borrow.Author.Tests.{leb-true}
use Rattle.paper.specs.Answers.{ok, refused, in_blocks, judgement_says, says, Judgement}
use Rattle.paper.specs.Named.{Summary, summarizing_says}
use Rattle.paper.specs.Numbers.{byte_at}
use Rattle.paper.specs.Tokens.{bytes, most_text}
use Rattle.paper.specs.Keys.{keys}
use Rattle.paper.specs.Meaning.{truth, is_true}
use Rattle.paper.specs.Code.{invert}
use Rattle.paper.specs.Blocks.{block_size, blocks_needed, blocks_of, count_at, layout}
use Rattle.paper.specs.Grammar.{Tree, nodes}
use Rattle.paper.specs.Translating.{conversions, joins}
use Rattle.paper.specs.Print.{print}
use Rattle.paper.specs.Calls.{tree, Restriction, check_answer, translate_answer, judge_answer, load_answer, run_answer}
use Rattle.paper.specs.CodeCorrect.{most_translated}
use Rattle.paper.specs.TranslationCorrect.{verdict_of}
use Rattle.tried.specs.MarkedJudgements.{the_keys, the_entry}
use Rattle.paper.specs.Promised.{verdict, PrintResult, Bytes, Programs, KeepsCheck, KeepsLoad}
use Rattle.paper.specs.Demands.{DemandOne, DemandTwo, DemandThree}
use Rattle.tried.specs.WrongPrints.{without_parentheses, with_all_parentheses, with_and_for_sequel, in_decimal, addresses_in_hex}
use Rattle.paper.specs.RecheckedRight.{Summarizes}
use Rattle.tried.specs.WrongExplainers.{Right}
use Rattle.tried.specs.WrongRecheckers.{RechecksRight, SummarizesRight}
use Rattle.tried.specs.WrongRunners.{RunsRight}
use Rattle.tried.specs.WrongPrograms.{RefusesAll, AcceptsAll, WritesNothing, FirstPartOnly, PassesNothing, PassesAll, WantsAllBlocks, CountsRight, Lends, CopiesText, LeavesParentheses, EnclosesAll, WritesAndForSequel, ForgetsBases, WritesAddressesInHex, explainer, NamesLastPart, FollowsLeftSpine, ShowsKeyForPriority, RechecksNever, RechecksAlways, RechecksEqual, RechecksUnranked, RechecksReadings, NamesPriority, NamesBareOnly, StepsByCode, SkipsKeepBool, LandsByHeight, FixesStrings, FixesComments, FixesWithZeros, FixesToDecimal, ChecksReduced, ChecksRightOperands, ChecksAtOperator, ChecksAboveZero, DraftsLastInverted, DraftsFromRight, DraftsInclusive, DraftsByAnd, AgreesAlways, DiffersAlways, ComparesFromFront, ComparesTwice, ComparesAnyShape, CountsFirstOnly, CountsWithRefused, CountsAlongSpine, CountsWithCut, RunsAllAsFirst, RunsUntilRefused, RunsAndClears, RunsRefusedAsViolated, RunsForLastSteps, RunsWithCut, WrongProgramsFail, NoWrongProgram, padded_text, padded_blocks, PaddingSeen}
use Rattle.paper.proofs.Stages.{never_ok, ok_same}
use Rattle.paper.proofs.LayoutPassed.{first_counted}
use Rattle.paper.proofs.Table.{table_holds}
use Rattle.paper.proofs.DamageDetected.{called}
use Rattle.paper.proofs.Promised.{says_same}
use Rattle.paper.proofs.ByteLists.{take_bytes, zero_bytes, all_bytes_lem, blocks_bytes}
use Rattle.paper.proofs.DemandOne.{demand_one_met}
use Rattle.paper.proofs.DemandTwo.{restricts, checkable_restriction, restriction_checkable, worth as value, judgeable_answer, answer_judgeable, judgeable_truth, demand_two_met}
use Rattle.paper.proofs.DemandThree.{demand_three_met}
use Rattle.paper.proofs.WellFormed.{tree_formed}
use Rattle.tried.proofs.WrongPrints.{close, negated, sixteen, sixteen_in_hex, reads_close, reads_negated, reads_hex, reads_address}
use Rattle.tried.proofs.WrongExplainers.{wrong_explainers_fail}
use Rattle.tried.proofs.WrongRecheckers.{wrong_recheckers_fail}
use Rattle.tried.proofs.WrongRunners.{wrong_runners_fail}
use Rattle.tried.proofs.WrongFixers.{wrong_fixers_fail}
use Rattle.tried.proofs.WrongCheckers.{keys_bytes, wrong_checkers_fail}
use Rattle.tried.proofs.WrongDrafters.{wrong_drafters_fail}
use Rattle.tried.proofs.WrongComparers.{wrong_comparers_fail}
use Rattle.tried.proofs.WrongCounters.{wrong_counters_fail}
use Rattle.tried.proofs.WrongTables.{wrong_tables_fail}

-- what demand 2 says of an entry that is judged
by_demand_two : (p : Programs) → DemandTwo p → (text list entry : List ℕ) → Bytes text → Bytes list → Bytes entry → (b : Bool) → judge_answer text list entry ≡ ok b
    → p.judge text list entry ≡ verdict b
by_demand_two p two text list entry bt bl be b e = go b e
  where
    worth : (b : Bool) (e : judge_answer text list entry ≡ ok b) →
        (let j = answer_judgeable text list entry b e in value text list entry j ≡ some (truth b))
    worth b e =
        let j = answer_judgeable text list entry b e in
        let (c, there) = judgeable_truth text list entry j in
        let same : c ≡ b = ok_same c b (ap (λ v. ok (is_true v)) (sym there) ∙ sym (judgeable_answer text list entry j) ∙ e) in
        there ∙ ap (λ x. some (truth x)) same

    go : (b : Bool) → judge_answer text list entry ≡ ok b → p.judge text list entry ≡ verdict b
    go true e = ((two.judges text list entry bt bl be).accepts (answer_judgeable text list entry true e)).1 (worth true e)
    go false e = ((two.judges text list entry bt bl be).violates (answer_judgeable text list entry false e)).1 (worth false e)

not_both : ◌≡◌ {A = Judgement} (Ok Accepted) (Ok Violated) → ⊥
not_both e = true≢false (ok_same true false (ap judgement_says e))

entry_bytes : Bytes the_entry
entry_bytes = all_bytes_lem the_entry refl

-- case 2

case_two : judge_answer (bytes "true;") the_keys the_entry ≡ ok true
unfolding judge_answer
case_two = refl

refusing_fails : (p : Programs) → DemandTwo p → ¬ RefusesAll p
refusing_fails p two all =
    let t : Bytes (bytes "true;") = all_bytes_lem (bytes "true;") refl in
    (two.judges (bytes "true;") the_keys the_entry t keys_bytes entry_bytes).refuses.0 (all (bytes "true;") the_keys the_entry t keys_bytes entry_bytes)
    (answer_judgeable (bytes "true;") the_keys the_entry true case_two)

-- case 7

case_seven : judge_answer (bytes "d == 0x20") the_keys the_entry ≡ ok false
unfolding judge_answer
case_seven = refl

accepting_fails : (p : Programs) → DemandTwo p → ¬ AcceptsAll p
accepting_fails p two all =
    let t : Bytes (bytes "d == 0x20") = all_bytes_lem (bytes "d == 0x20") refl in
    not_both
    (sym (all (bytes "d == 0x20") the_keys the_entry t keys_bytes entry_bytes)
    ∙ by_demand_two p two (bytes "d == 0x20") the_keys the_entry t keys_bytes entry_bytes false case_seven)

-- a buffer of 82 blocks, which any translation fits

zeros : List ℕ
zeros = replicate 41984 0

enough : blocks_needed most_translated * block_size ≤ length zeros
unfolding zeros
enough = omega (arith, length-replicate {A = ℕ} 41984 0)

zeros_bytes : Bytes zeros
unfolding zeros
zeros_bytes = zero_bytes 41984

passes : (p : Programs) → KeepsCheck p → (text list : List ℕ) → Bytes text → Bytes list → check_answer text list ≡ ok tt
    → p.check text list ≡ Ok tt
passes p checks text list t l e =
    says_same (p.check text list) (Ok tt) (checks text list t l ∙ e)

-- a text that passes is written there
written_there : (p : Programs) → KeepsCheck p → DemandThree p → (text list : List ℕ) → Bytes text → Bytes list
    → check_answer text list ≡ ok tt → (n : ℕ) × ((p.translate text list zeros).answer ≡ Ok n)
written_there p checks three text list t l e =
    let w = three.translates text list t l (passes p checks text list t l e) in
    (w.count, w.enough zeros zeros_bytes (omega (arith, w.few, enough)))

-- `true` with no keys

plain_passes : check_answer (bytes "true") [] ≡ ok tt
unfolding check_answer
plain_passes = refl

-- bytes of zeros do not load, however many are taken

zero_there : (n k i : ℕ) → byte_at (take k (replicate n 0)) i ≡ 0
zero_there n zero i = refl
zero_there zero (suc k) i = refl
zero_there (suc n) (suc k) zero = refl
zero_there (suc n) (suc k) (suc i) = zero_there n k i

nothing_counted : (k : ℕ) → count_at (take k zeros) 0 ≡ 0
unfolding zeros
nothing_counted k = omega (arith, zero_there 41984 k 2, zero_there 41984 k 3)

zeros_refused : (list : List ℕ) (k n : ℕ) → load_answer list (take k zeros) ≡ ok n → ⊥
zeros_refused list k n e =
    let c = called list (take k zeros) n e in
    omega (arith, first_counted (length c.ks) (take k zeros) c.good, nothing_counted k)

idle_fails : (p : Programs) → KeepsCheck p → KeepsLoad p → DemandThree p → ¬ WritesNothing p
idle_fails p checks loads three idle =
    let t : Bytes (bytes "true") = all_bytes_lem (bytes "true") refl in
    let (n, written) = written_there p checks three (bytes "true") [] t tt plain_passes in
    let there = (three.carries (bytes "true") [] zeros t tt zeros_bytes n written).loads in
    let same : p.load [] (take (block_size * blocks_needed n) zeros) ≡ Ok n = rw (idle (bytes "true") [] zeros t tt zeros_bytes) at there in
    zeros_refused [] (block_size * blocks_needed n) n (sym (loads [] (take (block_size * blocks_needed n) zeros) tt (take_bytes (block_size * blocks_needed n) zeros zeros_bytes)) ∙ ap says same)

barring_fails : (p : Programs) → KeepsCheck p → DemandThree p → ¬ PassesNothing p
barring_fails p checks three None-passes =
    let t : Bytes (bytes "true") = all_bytes_lem (bytes "true") refl in
    let (n, written) = written_there p checks three (bytes "true") [] t tt plain_passes in
    let there = three.carries (bytes "true") [] zeros t tt zeros_bytes n written in
    let exit = (p.translate (bytes "true") [] zeros).buffer in
    let (v, e) =
    None-passes [] (take (block_size * blocks_needed n) exit) tt (take_bytes (block_size * blocks_needed n) exit (three.bytes (bytes "true") [] zeros t tt zeros_bytes))
    in
    never_ok (ap says (sym e ∙ there.loads))

-- `true; v == 0`

parts_pass : check_answer padded_text the_keys ≡ ok tt
unfolding check_answer
parts_pass = refl

whole_violated : judge_answer padded_text the_keys the_entry ≡ ok false
unfolding judge_answer
whole_violated = refl

first_accepted : judge_answer (bytes "true") the_keys the_entry ≡ ok true
unfolding judge_answer
first_accepted = refl

plain_there : check_answer (bytes "true") the_keys ≡ ok tt
unfolding check_answer
plain_there = refl

rest_passes : check_answer (bytes " v == 0") the_keys ≡ ok tt
unfolding check_answer
rest_passes = refl

cutting_fails : (p : Programs) → KeepsCheck p → DemandTwo p → DemandThree p → ¬ FirstPartOnly p
cutting_fails p checks two three cuts =
    let b : Bytes padded_text = all_bytes_lem padded_text refl in
    let f : Bytes (bytes "true") = all_bytes_lem (bytes "true") refl in
    let s : Bytes (bytes " v == 0") = all_bytes_lem (bytes " v == 0") refl in
    let (n, written) = written_there p checks three padded_text the_keys b keys_bytes parts_pass in
    let there = three.runs_alike padded_text the_keys zeros b keys_bytes zeros_bytes n written the_entry entry_bytes in
    let first =
    cuts (bytes "true") (bytes " v == 0") the_keys zeros f s keys_bytes zeros_bytes refl
    (passes p checks (bytes "true") the_keys f keys_bytes plain_there)
    (passes p checks (bytes " v == 0") the_keys s keys_bytes rest_passes) n written the_entry entry_bytes
    in
    not_both
    (sym (by_demand_two p two (bytes "true") the_keys the_entry f keys_bytes entry_bytes true first_accepted) ∙ sym first ∙ there
    ∙ by_demand_two p two padded_text the_keys the_entry b keys_bytes entry_bytes false whole_violated)

-- a block of one "not", which finds no operand

abbrev lone : List ℕ
lone = blocks_of 0 (invert ∷ [])

lone_laid : layout 0 lone ≡ ok tt
unfolding layout blocks_of
lone_laid = refl

no_keys : keys [] ≡ ok []
unfolding keys
no_keys = refl

lone_refused : load_answer [] lone ≡ refused 18 in_blocks 4
unfolding load_answer blocks_of
lone_refused = refl

admitting_fails : (p : Programs) → KeepsLoad p → ¬ PassesAll p
admitting_fails p loads all =
    let b : Bytes lone = blocks_bytes 0 (invert ∷ []) in
    let (n, e) = all [] lone tt b [] no_keys lone_laid in
    never_ok (sym lone_refused ∙ sym (loads [] lone tt b) ∙ ap says e)

-- one block is enough for `true`

abbrev pub little : List ℕ
little = replicate 512 0

pub plain_written : translate_answer (bytes "true") [] little ≡ ok 1
unfolding translate_answer
plain_written = refl

wanting_fails : (p : Programs) → DemandOne p → ¬ WantsAllBlocks p
wanting_fails p one wants =
    let t : Bytes (bytes "true") = all_bytes_lem (bytes "true") refl in
    let b : Bytes little = zero_bytes 512 in
    let (v, e) = wants (bytes "true") [] little t tt b (lit< tt) in
    let clear = (table_holds.translate (bytes "true") [] little).passes.0 (1, plain_written) in
    let (n, said) = (one.translate (bytes "true") [] little t tt b).says.table.passes.1 clear in
    never_ok (sym (ap says e) ∙ said)

-- the count

counts_right : (p : Programs) → DemandTwo p → CountsRight p
counts_right p two text list buffer t l b n written r passed =
    let can = (two.translates text list buffer t l b n).0 written in
    let same = ok_same (restricts text list can.passes) r (sym (checkable_restriction text list can.passes) ∙ passed) in
    can.count ∙ ap (λ (x : Restriction). nodes x.root + conversions x.keys x.root + joins x.root) same

-- a printer that lends other bytes gives another count

same_count : (p : Programs) → DemandTwo p → (made : List ℕ → Tree → List ℕ) → Lends made p → (text : List ℕ) → Bytes text → (t : Tree)
    → tree text ≡ ok t → leb (length text) 512 ≡ true → leb (length (made text t)) 512 ≡ true → leb (length (print t)) 512 ≡ true
    → length (made text t) ≡ length (print t)
same_count p two made lends text b t read short few small =
    let room : length little ≡ 512 = length-replicate {A = ℕ} 512 0 in
    let under : length text ≤ most_text = omega (arith, leb-true (length text) 512 short) in
    let fits = leb-true (length (made text t)) 512 few in
    let printed = leb-true (length (print t)) 512 small in
    let zero : Bytes little = zero_bytes 512 in
    let lent = lends text little b zero under t read (omega (arith, fits)) (omega (arith, fits, room)) in
    let right =
    ((two.prints text little b zero).prints (length (print t))).1
    (record { root = t; formed = tree_formed text t under read; count = refl; short = omega (arith, printed); room = omega (arith, printed, room) })
    in
    ok_same (length (made text t)) (length (print t)) (ap (λ (r : PrintResult). says r.answer) (sym lent) ∙ ap says right)

copying_fails : (p : Programs) → DemandTwo p → ¬ CopiesText p
unfolding print
copying_fails p two copies =
    let z : ◌≡◌ {A = ℕ} 3 5 = same_count p two (λ text t. text) copies (bytes "a;b") (all_bytes_lem (bytes "a;b") refl) close reads_close refl refl refl in
    omega arith

leaving_fails : (p : Programs) → DemandTwo p → ¬ LeavesParentheses p
unfolding print
leaving_fails p two leaves =
    let z : ◌≡◌ {A = ℕ} 7 9 =
    same_count p two (λ text t. without_parentheses t) leaves (bytes "!(a==b)") (all_bytes_lem (bytes "!(a==b)") refl) negated reads_negated refl refl refl
    in
    omega arith

enclosing_fails : (p : Programs) → DemandTwo p → ¬ EnclosesAll p
unfolding print
enclosing_fails p two encloses =
    let z : ◌≡◌ {A = ℕ} 9 5 =
    same_count p two (λ text t. with_all_parentheses t) encloses (bytes "a;b") (all_bytes_lem (bytes "a;b") refl) close reads_close refl refl refl
    in
    omega arith

confusing_fails : (p : Programs) → DemandTwo p → ¬ WritesAndForSequel p
unfolding print
confusing_fails p two confuses =
    let z : ◌≡◌ {A = ℕ} 6 5 =
    same_count p two (λ text t. with_and_for_sequel t) confuses (bytes "a;b") (all_bytes_lem (bytes "a;b") refl) close reads_close refl refl refl
    in
    omega arith

forgetting_fails : (p : Programs) → DemandTwo p → ¬ ForgetsBases p
unfolding print
forgetting_fails p two forgets =
    let z : ◌≡◌ {A = ℕ} 2 4 =
    same_count p two (λ text t. in_decimal t) forgets (bytes "0x10") (all_bytes_lem (bytes "0x10") refl) sixteen_in_hex reads_hex refl refl refl
    in
    omega arith

rewriting_fails : (p : Programs) → DemandTwo p → ¬ WritesAddressesInHex p
unfolding print
rewriting_fails p two rewrites =
    let text = bytes "ipv4('0.0.0.16')" in
    let z : ◌≡◌ {A = ℕ} 4 2 = same_count p two addresses_in_hex rewrites text (all_bytes_lem text refl) sixteen reads_address refl refl refl in
    omega arith

-- what demand 2 asks of an explainer is what 02 asks

explains_right : (p : Programs) → DemandTwo p → Right (explainer p)
explains_right p two text list entry (t, l, e) = two.explains text list entry t l e

naming_last_fails : (p : Programs) → DemandTwo p → ¬ NamesLastPart p
naming_last_fails p two names = wrong_explainers_fail.last_part (explainer p) names (explains_right p two)

following_spine_fails : (p : Programs) → DemandTwo p → ¬ FollowsLeftSpine p
following_spine_fails p two follows = wrong_explainers_fail.left_spine (explainer p) follows (explains_right p two)

showing_key_fails : (p : Programs) → DemandTwo p → ¬ ShowsKeyForPriority p
showing_key_fails p two shows = wrong_explainers_fail.key_for_priority (explainer p) shows (explains_right p two)

-- and of summaries and rechecks

rechecks_right : (p : Programs) → DemandTwo p → RechecksRight p.recheck
rechecks_right p two text list old earlier new (t, l, o, n) = (two.rechecks text list old earlier new t l o n).rechecks

summarizes_right : (p : Programs) → DemandTwo p → SummarizesRight p.summarize
summarizes_right p two text list t l r passed =
    let (c, same) = restriction_checkable text list r passed in
    let right = two.summarizes text list t l in
    let (keys, priority, e) = right.passes.1 c in
    let s : Summary = record { keys = keys; priority = priority } in
    (s, ap summarizing_says e, subst (λ (q : Restriction). Summarizes q.keys q.root s) same (right.summary keys priority e c))

never_reusing_fails : (p : Programs) → DemandTwo p → ¬ RechecksNever p
never_reusing_fails p two never = wrong_recheckers_fail.never p.recheck never (rechecks_right p two)

always_reusing_fails : (p : Programs) → DemandTwo p → ¬ RechecksAlways p
always_reusing_fails p two always = wrong_recheckers_fail.always p.recheck always (rechecks_right p two)

wanting_equals_fails : (p : Programs) → DemandTwo p → ¬ RechecksEqual p
wanting_equals_fails p two wants = wrong_recheckers_fail.equal_entries p.recheck wants (rechecks_right p two)

forgetting_priority_fails : (p : Programs) → DemandTwo p → ¬ RechecksUnranked p
forgetting_priority_fails p two forgets = wrong_recheckers_fail.priority_forgotten p.recheck forgets (rechecks_right p two)

comparing_readings_fails : (p : Programs) → DemandTwo p → ¬ RechecksReadings p
comparing_readings_fails p two compares = wrong_recheckers_fail.readings p.recheck compares (rechecks_right p two)

counting_priority_fails : (p : Programs) → DemandTwo p → ¬ NamesPriority p
counting_priority_fails p two counts = wrong_recheckers_fail.priority_counted p.summarize counts (summarizes_right p two)

missing_fields_fails : (p : Programs) → DemandTwo p → ¬ NamesBareOnly p
missing_fields_fails p two misses = wrong_recheckers_fail.fields_missed p.summarize misses (summarizes_right p two)

-- and of ways with skips

runs_right : (p : Programs) → DemandTwo p → RunsRight p.run
runs_right p two list blocks entry l s e = two.runs list blocks entry l s e

steps_by_code_fails : (p : Programs) → DemandTwo p → ¬ StepsByCode p
steps_by_code_fails p two reports = wrong_runners_fail.instructions p.run reports (runs_right p two)

keeping_bool_fails : (p : Programs) → DemandTwo p → ¬ SkipsKeepBool p
keeping_bool_fails p two keeps = wrong_runners_fail.old_bool p.run keeps (runs_right p two)

landing_by_height_fails : (p : Programs) → KeepsLoad p → ¬ LandsByHeight p
landing_by_height_fails p loads compares = wrong_runners_fail.heights p.load compares loads

-- and of passes over octal numerals

fixing_strings_fails : (p : Programs) → DemandTwo p → ¬ FixesStrings p
fixing_strings_fails p two changes = wrong_fixers_fail.strings p.fix changes two.fixes

fixing_comments_fails : (p : Programs) → DemandTwo p → ¬ FixesComments p
fixing_comments_fails p two changes = wrong_fixers_fail.comments p.fix changes two.fixes

fixing_with_zeros_fails : (p : Programs) → DemandTwo p → ¬ FixesWithZeros p
fixing_with_zeros_fails p two keeps = wrong_fixers_fail.zeros p.fix keeps two.fixes

fixing_to_decimal_fails : (p : Programs) → DemandTwo p → ¬ FixesToDecimal p
fixing_to_decimal_fails p two drops = wrong_fixers_fail.dropped p.fix drops two.fixes

-- and of checkers of numbers that lose bits

reducing_still_fails : (p : Programs) → DemandTwo p → ¬ ChecksReduced p
reducing_still_fails p two reduces = wrong_checkers_fail.reducing p.check reduces two.checks

looking_right_fails : (p : Programs) → DemandTwo p → ¬ ChecksRightOperands p
looking_right_fails p two looks = wrong_checkers_fail.looking_right p.check looks two.checks

placing_at_operator_fails : (p : Programs) → KeepsCheck p → ¬ ChecksAtOperator p
placing_at_operator_fails p checks places = wrong_checkers_fail.at_operator_lem p.check places checks

taking_none_below_fails : (p : Programs) → DemandTwo p → ¬ ChecksAboveZero p
taking_none_below_fails p two takes = wrong_checkers_fail.above_zero_lem p.check takes two.checks

-- and of translations of contracts

inverting_last_fails : (p : Programs) → DemandTwo p → ¬ DraftsLastInverted p
inverting_last_fails p two inverts = wrong_drafters_fail.inverting_last p.draft inverts two.drafts

joining_right_fails : (p : Programs) → DemandTwo p → ¬ DraftsFromRight p
joining_right_fails p two joins = wrong_drafters_fail.joining_right p.draft joins two.drafts

taking_inclusive_fails : (p : Programs) → DemandTwo p → ¬ DraftsInclusive p
taking_inclusive_fails p two takes = wrong_drafters_fail.inclusive p.draft takes two.drafts

joining_by_and_fails : (p : Programs) → DemandTwo p → ¬ DraftsByAnd p
joining_by_and_fails p two joins = wrong_drafters_fail.joining_by_and p.draft joins two.drafts

-- and of comparisons

always_agreeing_fails : (p : Programs) → DemandTwo p → ¬ AgreesAlways p
always_agreeing_fails p two agrees = wrong_comparers_fail.agreeing p.compare agrees two.compares

always_differing_fails : (p : Programs) → DemandTwo p → ¬ DiffersAlways p
always_differing_fails p two differs = wrong_comparers_fail.differing p.compare differs two.compares

matching_from_front_fails : (p : Programs) → DemandTwo p → ¬ ComparesFromFront p
matching_from_front_fails p two matches = wrong_comparers_fail.from_front_lem p.compare matches two.compares

using_twice_fails : (p : Programs) → DemandTwo p → ¬ ComparesTwice p
using_twice_fails p two uses = wrong_comparers_fail.twice p.compare uses two.compares

ignoring_shape_fails : (p : Programs) → DemandTwo p → ¬ ComparesAnyShape p
ignoring_shape_fails p two ignores = wrong_comparers_fail.shape p.compare ignores two.compares

-- and of counts

counting_first_fails : (p : Programs) → DemandTwo p → ¬ CountsFirstOnly p
counting_first_fails p two counts = wrong_counters_fail.first p.count counts two.counts

counting_refused_fails : (p : Programs) → DemandTwo p → ¬ CountsWithRefused p
counting_refused_fails p two counts = wrong_counters_fail.refused p.count counts two.counts

counting_by_spine_fails : (p : Programs) → DemandTwo p → ¬ CountsAlongSpine p
counting_by_spine_fails p two counts = wrong_counters_fail.spine p.count counts two.counts

counting_cut_fails : (p : Programs) → DemandTwo p → ¬ CountsWithCut p
counting_cut_fails p two counts = wrong_counters_fail.cut p.count counts two.counts

-- and of tables

judging_first_fails : (p : Programs) → DemandTwo p → ¬ RunsAllAsFirst p
judging_first_fails p two judges = wrong_tables_fail.first p.run_all judges two.runs_all

stopping_at_refused_fails : (p : Programs) → DemandTwo p → ¬ RunsUntilRefused p
stopping_at_refused_fails p two stops = wrong_tables_fail.stopping p.run_all stops two.runs_all

clearing_later_fails : (p : Programs) → DemandTwo p → ¬ RunsAndClears p
clearing_later_fails p two clears = wrong_tables_fail.clearing p.run_all clears two.runs_all

telling_violated_fails : (p : Programs) → DemandTwo p → ¬ RunsRefusedAsViolated p
telling_violated_fails p two tells = wrong_tables_fail.as_violated p.run_all tells two.runs_all

telling_last_steps_fails : (p : Programs) → DemandTwo p → ¬ RunsForLastSteps p
telling_last_steps_fails p two tells = wrong_tables_fail.last_steps_lem p.run_all tells two.runs_all

taking_cut_fails : (p : Programs) → DemandTwo p → ¬ RunsWithCut p
taking_cut_fails p two takes = wrong_tables_fail.cut p.run_all takes two.runs_all

pub wrong_programs_fail : WrongProgramsFail
wrong_programs_fail p =
    record {
      refusing = refusing_fails p;
      accepting = accepting_fails p;
      idle = idle_fails p;
      cutting = cutting_fails p;
      barring = barring_fails p;
      admitting = admitting_fails p;
      wanting = wanting_fails p;
      counting = counts_right p;
      copying = copying_fails p;
      leaving = leaving_fails p;
      enclosing = enclosing_fails p;
      confusing = confusing_fails p;
      forgetting = forgetting_fails p;
      rewriting = rewriting_fails p;
      naming_last = naming_last_fails p;
      following_spine = following_spine_fails p;
      showing_key = showing_key_fails p;
      never_reusing = never_reusing_fails p;
      always_reusing = always_reusing_fails p;
      wanting_equals = wanting_equals_fails p;
      forgetting_priority = forgetting_priority_fails p;
      comparing_readings = comparing_readings_fails p;
      counting_priority = counting_priority_fails p;
      missing_fields = missing_fields_fails p;
      steps_by_code = steps_by_code_fails p;
      keeping_bool = keeping_bool_fails p;
      landing_by_height = landing_by_height_fails p;
      fixing_strings = fixing_strings_fails p;
      fixing_comments = fixing_comments_fails p;
      fixing_with_zeros = fixing_with_zeros_fails p;
      fixing_to_decimal = fixing_to_decimal_fails p;
      reducing_still = reducing_still_fails p;
      looking_right = looking_right_fails p;
      placing_at_operator = placing_at_operator_fails p;
      taking_none_below = taking_none_below_fails p;
      inverting_last = inverting_last_fails p;
      joining_right = joining_right_fails p;
      taking_inclusive = taking_inclusive_fails p;
      joining_by_and = joining_by_and_fails p;
      always_agreeing = always_agreeing_fails p;
      always_differing = always_differing_fails p;
      matching_from_front = matching_from_front_fails p;
      using_twice = using_twice_fails p;
      ignoring_shape = ignoring_shape_fails p;
      counting_first = counting_first_fails p;
      counting_refused = counting_refused_fails p;
      counting_by_spine = counting_by_spine_fails p;
      counting_cut = counting_cut_fails p;
      judging_first = judging_first_fails p;
      stopping_at_refused = stopping_at_refused_fails p;
      clearing_later_lem = clearing_later_fails p;
      telling_violated = telling_violated_fails p;
      telling_last_steps = telling_last_steps_fails p;
      taking_cut = taking_cut_fails p;
    }

pub no_wrong_program : NoWrongProgram
no_wrong_program p kept =
    let two = demand_two_met p kept in
    let three = demand_three_met p kept in
    record {
      refusing = refusing_fails p two;
      accepting = accepting_fails p two;
      idle = idle_fails p kept.check kept.load three;
      cutting = cutting_fails p kept.check two three;
      barring = barring_fails p kept.check three;
      admitting = admitting_fails p kept.load;
      wanting = wanting_fails p (demand_one_met p kept);
      counting = counts_right p two;
      copying = copying_fails p two;
      leaving = leaving_fails p two;
      enclosing = enclosing_fails p two;
      confusing = confusing_fails p two;
      forgetting = forgetting_fails p two;
      rewriting = rewriting_fails p two;
      naming_last = naming_last_fails p two;
      following_spine = following_spine_fails p two;
      showing_key = showing_key_fails p two;
      never_reusing = never_reusing_fails p two;
      always_reusing = always_reusing_fails p two;
      wanting_equals = wanting_equals_fails p two;
      forgetting_priority = forgetting_priority_fails p two;
      comparing_readings = comparing_readings_fails p two;
      counting_priority = counting_priority_fails p two;
      missing_fields = missing_fields_fails p two;
      steps_by_code = steps_by_code_fails p two;
      keeping_bool = keeping_bool_fails p two;
      landing_by_height = landing_by_height_fails p kept.load;
      fixing_strings = fixing_strings_fails p two;
      fixing_comments = fixing_comments_fails p two;
      fixing_with_zeros = fixing_with_zeros_fails p two;
      fixing_to_decimal = fixing_to_decimal_fails p two;
      reducing_still = reducing_still_fails p two;
      looking_right = looking_right_fails p two;
      placing_at_operator = placing_at_operator_fails p kept.check;
      taking_none_below = taking_none_below_fails p two;
      inverting_last = inverting_last_fails p two;
      joining_right = joining_right_fails p two;
      taking_inclusive = taking_inclusive_fails p two;
      joining_by_and = joining_by_and_fails p two;
      always_agreeing = always_agreeing_fails p two;
      always_differing = always_differing_fails p two;
      matching_from_front = matching_from_front_fails p two;
      using_twice = using_twice_fails p two;
      ignoring_shape = ignoring_shape_fails p two;
      counting_first = counting_first_fails p two;
      counting_refused = counting_refused_fails p two;
      counting_by_spine = counting_by_spine_fails p two;
      counting_cut = counting_cut_fails p two;
      judging_first = judging_first_fails p two;
      stopping_at_refused = stopping_at_refused_fails p two;
      clearing_later_lem = clearing_later_fails p two;
      telling_violated = telling_violated_fails p two;
      telling_last_steps = telling_last_steps_fails p two;
      taking_cut = taking_cut_fails p two;
    }

padded_loads : load_answer the_keys padded_blocks ≡ ok 3
unfolding load_answer blocks_of
padded_loads = refl

padded_runs : run_answer the_keys padded_blocks the_entry ≡ ok (record { accepted = true; steps = 3 })
unfolding run_answer blocks_of
padded_runs = refl

pub padding_seen : PaddingSeen
padding_seen =
    record {
      loads = padded_loads;
      runs = padded_runs;
      judged = whole_violated;
      not_carried = λ n c.
          true≢false (ok_same true false (sym (ap verdict_of padded_runs) ∙ c.judges the_entry ∙ whole_violated));
    }
