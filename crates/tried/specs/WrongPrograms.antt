-- 01, "Try these against it": programs that the promises must leave no room for; and wrong printers (02 a and e), explainers (02 c),
-- summaries and rechecks (02 f), ways with skips (02 g), passes over octal numerals (02 h), checkers of numbers that lose bits (02 j),
-- translations of contracts (02 k), comparisons (02 l), counts (02 m), and tables in one call. Each is refuted at an input, named in the proof.
use Rattle.std.specs.Prelude.{ℕ, ◌+◌, ◌*◌, ◌≤◌, ◌<◌, ◌≡◌, true, false, cond, List, [], ◌∷◌, ◌++◌, length, Ok, Err}
use Rattle.paper.specs.declared.Refusal.{Refusal}
use Rattle.paper.specs.declared.Verdict.TheVariants.{Accepted}
use Rattle.paper.specs.declared.Place.{Place}
use Rattle.paper.specs.Answers.{ok}
use Rattle.paper.specs.Tokens.{bytes, is, most_text}
use Rattle.paper.specs.Keys.{Key, keys}
use Rattle.paper.specs.Grammar.{Tree, nodes}
use Rattle.paper.specs.Meaning.{both}
use Rattle.paper.specs.Code.{push_bool, connects}
use Rattle.paper.specs.Blocks.{block_size, most_blocks, blocks_of, layout}
use Rattle.paper.specs.Translating.{conversions, joins}
use Rattle.paper.specs.Calls.{tree, Restriction, restriction, over, judge_answer, load_answer, run_answer}
use Rattle.paper.specs.TranslationCorrect.{Carries}
use Rattle.tried.specs.MarkedJudgements.{the_keys, the_entry}
use Rattle.paper.specs.Explained.{explanation_says}
use Rattle.paper.specs.Promised.{judgement_of_run, Bytes, Programs, KeepsRead, KeepsCheck, KeepsJudge, KeepsTranslate, KeepsLoad, KeepsRun, KeepsPrint, KeepsExplain, KeepsSummarize, KeepsRecheck, KeepsFix, KeepsDraft, KeepsCompare, KeepsCount, KeepsRunAll, Kept}
use Rattle.tried.specs.WrongPrints.{without_parentheses, with_all_parentheses, with_and_for_sequel, in_decimal, addresses_in_hex}
use Rattle.tried.specs.WrongExplainers.{Explainer, NamesLast, FollowsSpine, KeyForPriority}
use Rattle.tried.specs.WrongRecheckers.{NeverReuses, AlwaysReuses, WantsEqualEntries, ForgetsPriority, ComparesReadings, CountsPriority, MissesFields}
use Rattle.tried.specs.WrongRunners.{ReportsInstructions, LeavesOldBool, ComparesHeights}
use Rattle.tried.specs.WrongFixers.{ChangesStrings, ChangesComments, KeepsZeros, DropsPrefix}
use Rattle.tried.specs.WrongCheckers.{ReducesStill, LooksRight, PlacesAtOperator, TakesNoneBelowZero}
use Rattle.tried.specs.WrongDrafters.{InvertsLast, JoinsRight, TakesInclusive, JoinsByAnd}
use Rattle.tried.specs.WrongComparers.{AlwaysAgrees, AlwaysDiffers, MatchesFromFront, UsesTwice, IgnoresShape}
use Rattle.tried.specs.WrongCounters.{CountsFirst, CountsRefused, CountsBySpine, CountsCut}
use Rattle.tried.specs.WrongTables.{JudgesFirst, StopsAtRefused, ClearsLater, TellsViolated, TellsLastSteps, TakesCut}
use Rattle.paper.specs.Demands.{Refuses, blocks_written, DemandOne, DemandTwo, DemandThree}

-- the bytes before the first ";"
abbrev pub part_of : List ℕ → List ℕ
part_of [] = []
part_of (b ∷ s) =
    let more = b ∷ part_of s in
    cond (is ";" b) [] more

-- "a judge that refuses everything"
abbrev pub RefusesAll : Programs → Type 0
RefusesAll p = (text list entry : List ℕ) → Bytes text → Bytes list → Bytes entry → Refuses (p.judge text list entry)

-- "one that accepts everything"
abbrev pub AcceptsAll : Programs → Type 0
AcceptsAll p = (text list entry : List ℕ) → Bytes text → Bytes list → Bytes entry → p.judge text list entry ≡ Ok Accepted

-- "a translator that writes nothing"
abbrev pub WritesNothing : Programs → Type 0
WritesNothing p =
    (text list buffer : List ℕ) → Bytes text → Bytes list → Bytes buffer → (p.translate text list buffer).buffer ≡ buffer

-- "one that translates only the first ";" part and pads with true": of a text whose first part, up to its first ";", passes alone, and
-- whose rest passes alone, the blocks say what the first part says, however they are padded. Nothing is said of other texts, so a
-- translator that cuts at the first byte ";" is meant as well as one that parses
abbrev pub FirstPartOnly : Programs → Type 0
FirstPartOnly p =
    (first rest list buffer : List ℕ) → Bytes first → Bytes rest → Bytes list → Bytes buffer
    → part_of first ≡ first → p.check first list ≡ Ok tt → p.check rest list ≡ Ok tt
    → (n : ℕ) → (p.translate (first ++ bytes ";" ++ rest) list buffer).answer ≡ Ok n
    → (entry : List ℕ) → Bytes entry
    → judgement_of_run (p.run list (blocks_written n (p.translate (first ++ bytes ";" ++ rest) list buffer).buffer) entry)
    ≡ p.judge first list entry

-- "a loader that passes nothing"
abbrev pub PassesNothing : Programs → Type 0
PassesNothing p = (list blocks : List ℕ) → Bytes list → Bytes blocks → (v : Refusal) × (p.load list blocks ≡ Err v)

-- "or all": all blocks that are laid out well, so that only 18 is left
abbrev pub PassesAll : Programs → Type 0
PassesAll p =
    (list blocks : List ℕ) → Bytes list → Bytes blocks → (ks : List Key) → keys list ≡ ok ks → layout (length ks) blocks ≡ ok tt
    → (n : ℕ) × (p.load list blocks ≡ Ok n)

-- "an invented instruction count (it is the nodes of the tree plus the conversions, as defined)", and since 02 g the joins: there is none
abbrev pub CountsRight : Programs → Type 0
CountsRight p =
    (text list buffer : List ℕ) → Bytes text → Bytes list → Bytes buffer → (n : ℕ) → (p.translate text list buffer).answer ≡ Ok n
    → (r : Restriction) → restriction text list ≡ ok r → n ≡ nodes r.root + conversions r.keys r.root + joins r.root

-- a translator that asks for as many blocks as load, whatever the text
abbrev pub WantsAllBlocks : Programs → Type 0
WantsAllBlocks p =
    (text list buffer : List ℕ) → Bytes text → Bytes list → Bytes buffer → length buffer < most_blocks * block_size
    → (v : Refusal) × ((p.translate text list buffer).answer ≡ Err v)

-- a printer that lends other bytes than the print, made from the text and its tree
abbrev pub Lends : (List ℕ → Tree → List ℕ) → Programs → Type 0
Lends made p =
    (text buffer : List ℕ) → Bytes text → Bytes buffer → length text ≤ most_text → (t : Tree) → tree text ≡ ok t
    → length (made text t) ≤ most_text → length (made text t) ≤ length buffer
    → p.print text buffer ≡ record { answer = Ok (length (made text t)); buffer = over (made text t) buffer }

-- those of WrongPrints

abbrev pub CopiesText : Programs → Type 0
CopiesText = Lends (λ text t. text)

abbrev pub LeavesParentheses : Programs → Type 0
LeavesParentheses = Lends (λ text t. without_parentheses t)

abbrev pub EnclosesAll : Programs → Type 0
EnclosesAll = Lends (λ text t. with_all_parentheses t)

abbrev pub WritesAndForSequel : Programs → Type 0
WritesAndForSequel = Lends (λ text t. with_and_for_sequel t)

abbrev pub ForgetsBases : Programs → Type 0
ForgetsBases = Lends (λ text t. in_decimal t)

abbrev pub WritesAddressesInHex : Programs → Type 0
WritesAddressesInHex = Lends addresses_in_hex

-- the three of WrongExplainers

abbrev pub explainer : Programs → Explainer
explainer p text list entry = explanation_says (p.explain text list entry)

abbrev pub NamesLastPart : Programs → Type 0
NamesLastPart p = NamesLast (explainer p)

abbrev pub FollowsLeftSpine : Programs → Type 0
FollowsLeftSpine p = FollowsSpine (explainer p)

abbrev pub ShowsKeyForPriority : Programs → Type 0
ShowsKeyForPriority p = KeyForPriority (explainer p)

-- those of WrongRecheckers

abbrev pub RechecksNever : Programs → Type 0
RechecksNever p = NeverReuses p.recheck

abbrev pub RechecksAlways : Programs → Type 0
RechecksAlways p = AlwaysReuses p.recheck

abbrev pub RechecksEqual : Programs → Type 0
RechecksEqual p = WantsEqualEntries p.recheck

abbrev pub RechecksUnranked : Programs → Type 0
RechecksUnranked p = ForgetsPriority p.recheck

abbrev pub RechecksReadings : Programs → Type 0
RechecksReadings p = ComparesReadings p.recheck

abbrev pub NamesPriority : Programs → Type 0
NamesPriority p = CountsPriority p.summarize

abbrev pub NamesBareOnly : Programs → Type 0
NamesBareOnly p = MissesFields p.summarize

-- those of WrongRunners

abbrev pub StepsByCode : Programs → Type 0
StepsByCode p = ReportsInstructions p.run

abbrev pub SkipsKeepBool : Programs → Type 0
SkipsKeepBool p = LeavesOldBool p.run

abbrev pub LandsByHeight : Programs → Type 0
LandsByHeight p = ComparesHeights p.load

-- those of WrongFixers

abbrev pub FixesStrings : Programs → Type 0
FixesStrings p = ChangesStrings p.fix

abbrev pub FixesComments : Programs → Type 0
FixesComments p = ChangesComments p.fix

abbrev pub FixesWithZeros : Programs → Type 0
FixesWithZeros p = KeepsZeros p.fix

abbrev pub FixesToDecimal : Programs → Type 0
FixesToDecimal p = DropsPrefix p.fix

-- those of WrongCheckers

abbrev pub ChecksReduced : Programs → Type 0
ChecksReduced p = ReducesStill p.check

abbrev pub ChecksRightOperands : Programs → Type 0
ChecksRightOperands p = LooksRight p.check

abbrev pub ChecksAtOperator : Programs → Type 0
ChecksAtOperator p = PlacesAtOperator p.check

abbrev pub ChecksAboveZero : Programs → Type 0
ChecksAboveZero p = TakesNoneBelowZero p.check

-- those of WrongDrafters

abbrev pub DraftsLastInverted : Programs → Type 0
DraftsLastInverted p = InvertsLast p.draft

abbrev pub DraftsFromRight : Programs → Type 0
DraftsFromRight p = JoinsRight p.draft

abbrev pub DraftsInclusive : Programs → Type 0
DraftsInclusive p = TakesInclusive p.draft

abbrev pub DraftsByAnd : Programs → Type 0
DraftsByAnd p = JoinsByAnd p.draft

-- those of WrongComparers

abbrev pub AgreesAlways : Programs → Type 0
AgreesAlways p = AlwaysAgrees p.compare

abbrev pub DiffersAlways : Programs → Type 0
DiffersAlways p = AlwaysDiffers p.compare

abbrev pub ComparesFromFront : Programs → Type 0
ComparesFromFront p = MatchesFromFront p.compare

abbrev pub ComparesTwice : Programs → Type 0
ComparesTwice p = UsesTwice p.compare

abbrev pub ComparesAnyShape : Programs → Type 0
ComparesAnyShape p = IgnoresShape p.compare

-- those of WrongCounters

abbrev pub CountsFirstOnly : Programs → Type 0
CountsFirstOnly p = CountsFirst p.count

abbrev pub CountsWithRefused : Programs → Type 0
CountsWithRefused p = CountsRefused p.count

abbrev pub CountsAlongSpine : Programs → Type 0
CountsAlongSpine p = CountsBySpine p.count

abbrev pub CountsWithCut : Programs → Type 0
CountsWithCut p = CountsCut p.count

-- those of WrongTables

abbrev pub RunsAllAsFirst : Programs → Type 0
RunsAllAsFirst p = JudgesFirst p.run_all

abbrev pub RunsUntilRefused : Programs → Type 0
RunsUntilRefused p = StopsAtRefused p.run_all

abbrev pub RunsAndClears : Programs → Type 0
RunsAndClears p = ClearsLater p.run_all

abbrev pub RunsRefusedAsViolated : Programs → Type 0
RunsRefusedAsViolated p = TellsViolated p.run_all

abbrev pub RunsForLastSteps : Programs → Type 0
RunsForLastSteps p = TellsLastSteps p.run_all

abbrev pub RunsWithCut : Programs → Type 0
RunsWithCut p = TakesCut p.run_all

-- each is real: there is such a program in which every other call keeps its promise

pub data Call : Type 0 where
  checking judging translating loading running printing explaining summarizing rechecking fixing drafting comparing totalling tabling : Call

-- the calls of document 01, and those since

abbrev pub FirstKept : Programs → Type 0
FirstKept p = KeepsRead p × KeepsCheck p × KeepsJudge p × KeepsTranslate p × KeepsLoad p × KeepsRun p

abbrev pub LaterKept : Programs → Type 0
LaterKept p = KeepsPrint p × KeepsExplain p × KeepsSummarize p × KeepsRecheck p × KeepsFix p × KeepsDraft p × KeepsCompare p × KeepsCount p × KeepsRunAll p

abbrev pub OthersKept : Call → Programs → Type 0
OthersKept checking p = (KeepsRead p × KeepsJudge p × KeepsTranslate p × KeepsLoad p × KeepsRun p) × LaterKept p
OthersKept judging p = (KeepsRead p × KeepsCheck p × KeepsTranslate p × KeepsLoad p × KeepsRun p) × LaterKept p
OthersKept translating p = (KeepsRead p × KeepsCheck p × KeepsJudge p × KeepsLoad p × KeepsRun p) × LaterKept p
OthersKept loading p = (KeepsRead p × KeepsCheck p × KeepsJudge p × KeepsTranslate p × KeepsRun p) × LaterKept p
OthersKept running p = (KeepsRead p × KeepsCheck p × KeepsJudge p × KeepsTranslate p × KeepsLoad p) × LaterKept p
OthersKept printing p = FirstKept p × (KeepsExplain p × KeepsSummarize p × KeepsRecheck p × KeepsFix p × KeepsDraft p × KeepsCompare p × KeepsCount p × KeepsRunAll p)
OthersKept explaining p = FirstKept p × (KeepsPrint p × KeepsSummarize p × KeepsRecheck p × KeepsFix p × KeepsDraft p × KeepsCompare p × KeepsCount p × KeepsRunAll p)
OthersKept summarizing p = FirstKept p × (KeepsPrint p × KeepsExplain p × KeepsRecheck p × KeepsFix p × KeepsDraft p × KeepsCompare p × KeepsCount p × KeepsRunAll p)
OthersKept rechecking p = FirstKept p × (KeepsPrint p × KeepsExplain p × KeepsSummarize p × KeepsFix p × KeepsDraft p × KeepsCompare p × KeepsCount p × KeepsRunAll p)
OthersKept fixing p = FirstKept p × (KeepsPrint p × KeepsExplain p × KeepsSummarize p × KeepsRecheck p × KeepsDraft p × KeepsCompare p × KeepsCount p × KeepsRunAll p)
OthersKept drafting p = FirstKept p × (KeepsPrint p × KeepsExplain p × KeepsSummarize p × KeepsRecheck p × KeepsFix p × KeepsCompare p × KeepsCount p × KeepsRunAll p)
OthersKept comparing p = FirstKept p × (KeepsPrint p × KeepsExplain p × KeepsSummarize p × KeepsRecheck p × KeepsFix p × KeepsDraft p × KeepsCount p × KeepsRunAll p)
OthersKept totalling p = FirstKept p × (KeepsPrint p × KeepsExplain p × KeepsSummarize p × KeepsRecheck p × KeepsFix p × KeepsDraft p × KeepsCompare p × KeepsRunAll p)
OthersKept tabling p = FirstKept p × (KeepsPrint p × KeepsExplain p × KeepsSummarize p × KeepsRecheck p × KeepsFix p × KeepsDraft p × KeepsCompare p × KeepsCount p)

abbrev pub ThereIs : (Programs → Type 0) → Call → Type 0
ThereIs Wrong c = (p : Programs) × Wrong p × OthersKept c p

pub record WrongProgramsExist : Type 0 where
  pub refusing : ThereIs RefusesAll judging
  pub accepting : ThereIs AcceptsAll judging
  pub idle : ThereIs WritesNothing translating
  pub cutting : ThereIs FirstPartOnly translating
  pub barring : ThereIs PassesNothing loading
  pub admitting : ThereIs PassesAll loading
  pub wanting : ThereIs WantsAllBlocks translating
  pub counting : ThereIs (λ p. ¬ CountsRight p) translating
  pub copying : ThereIs CopiesText printing
  pub leaving : ThereIs LeavesParentheses printing
  pub enclosing : ThereIs EnclosesAll printing
  pub confusing : ThereIs WritesAndForSequel printing
  pub forgetting : ThereIs ForgetsBases printing
  pub rewriting : ThereIs WritesAddressesInHex printing
  pub naming_last : ThereIs NamesLastPart explaining
  pub following_spine : ThereIs FollowsLeftSpine explaining
  pub showing_key : ThereIs ShowsKeyForPriority explaining
  pub never_reusing : ThereIs RechecksNever rechecking
  pub always_reusing : ThereIs RechecksAlways rechecking
  pub wanting_equals : ThereIs RechecksEqual rechecking
  pub forgetting_priority : ThereIs RechecksUnranked rechecking
  pub comparing_readings : ThereIs RechecksReadings rechecking
  pub counting_priority : ThereIs NamesPriority summarizing
  pub missing_fields : ThereIs NamesBareOnly summarizing
  pub steps_by_code : ThereIs StepsByCode running
  pub keeping_bool : ThereIs SkipsKeepBool running
  pub landing_by_height : ThereIs LandsByHeight loading
  pub fixing_strings : ThereIs FixesStrings fixing
  pub fixing_comments : ThereIs FixesComments fixing
  pub fixing_with_zeros : ThereIs FixesWithZeros fixing
  pub fixing_to_decimal : ThereIs FixesToDecimal fixing
  pub reducing_still : ThereIs ChecksReduced checking
  pub looking_right : ThereIs ChecksRightOperands checking
  pub placing_at_operator : ThereIs ChecksAtOperator checking
  pub taking_none_below : ThereIs ChecksAboveZero checking
  pub inverting_last : ThereIs DraftsLastInverted drafting
  pub joining_right : ThereIs DraftsFromRight drafting
  pub taking_inclusive : ThereIs DraftsInclusive drafting
  pub joining_by_and : ThereIs DraftsByAnd drafting
  pub always_agreeing : ThereIs AgreesAlways comparing
  pub always_differing : ThereIs DiffersAlways comparing
  pub matching_from_front : ThereIs ComparesFromFront comparing
  pub using_twice : ThereIs ComparesTwice comparing
  pub ignoring_shape : ThereIs ComparesAnyShape comparing
  pub counting_first : ThereIs CountsFirstOnly totalling
  pub counting_refused : ThereIs CountsWithRefused totalling
  pub counting_by_spine : ThereIs CountsAlongSpine totalling
  pub counting_cut : ThereIs CountsWithCut totalling
  pub judging_first : ThereIs RunsAllAsFirst tabling
  pub stopping_at_refused : ThereIs RunsUntilRefused tabling
  pub clearing_later_lem : ThereIs RunsAndClears tabling
  pub telling_violated : ThereIs RunsRefusedAsViolated tabling
  pub telling_last_steps : ThereIs RunsForLastSteps tabling
  pub taking_cut : ThereIs RunsWithCut tabling

-- what excludes each: a demand, beside the calls that it is tried with; or a promise, that of `load` by 18, or that of `check` by a place
pub record DemandsExclude (p : Programs) : Type 0 where
  pub refusing : DemandTwo p → ¬ RefusesAll p
  pub accepting : DemandTwo p → ¬ AcceptsAll p
  pub idle : KeepsCheck p → KeepsLoad p → DemandThree p → ¬ WritesNothing p
  pub cutting : KeepsCheck p → DemandTwo p → DemandThree p → ¬ FirstPartOnly p
  pub barring : KeepsCheck p → DemandThree p → ¬ PassesNothing p
  pub admitting : KeepsLoad p → ¬ PassesAll p
  pub wanting : DemandOne p → ¬ WantsAllBlocks p
  pub counting : DemandTwo p → CountsRight p
  pub copying : DemandTwo p → ¬ CopiesText p
  pub leaving : DemandTwo p → ¬ LeavesParentheses p
  pub enclosing : DemandTwo p → ¬ EnclosesAll p
  pub confusing : DemandTwo p → ¬ WritesAndForSequel p
  pub forgetting : DemandTwo p → ¬ ForgetsBases p
  pub rewriting : DemandTwo p → ¬ WritesAddressesInHex p
  pub naming_last : DemandTwo p → ¬ NamesLastPart p
  pub following_spine : DemandTwo p → ¬ FollowsLeftSpine p
  pub showing_key : DemandTwo p → ¬ ShowsKeyForPriority p
  pub never_reusing : DemandTwo p → ¬ RechecksNever p
  pub always_reusing : DemandTwo p → ¬ RechecksAlways p
  pub wanting_equals : DemandTwo p → ¬ RechecksEqual p
  pub forgetting_priority : DemandTwo p → ¬ RechecksUnranked p
  pub comparing_readings : DemandTwo p → ¬ RechecksReadings p
  pub counting_priority : DemandTwo p → ¬ NamesPriority p
  pub missing_fields : DemandTwo p → ¬ NamesBareOnly p
  pub steps_by_code : DemandTwo p → ¬ StepsByCode p
  pub keeping_bool : DemandTwo p → ¬ SkipsKeepBool p
  pub landing_by_height : KeepsLoad p → ¬ LandsByHeight p
  pub fixing_strings : DemandTwo p → ¬ FixesStrings p
  pub fixing_comments : DemandTwo p → ¬ FixesComments p
  pub fixing_with_zeros : DemandTwo p → ¬ FixesWithZeros p
  pub fixing_to_decimal : DemandTwo p → ¬ FixesToDecimal p
  pub reducing_still : DemandTwo p → ¬ ChecksReduced p
  pub looking_right : DemandTwo p → ¬ ChecksRightOperands p
  pub placing_at_operator : KeepsCheck p → ¬ ChecksAtOperator p
  pub taking_none_below : DemandTwo p → ¬ ChecksAboveZero p
  pub inverting_last : DemandTwo p → ¬ DraftsLastInverted p
  pub joining_right : DemandTwo p → ¬ DraftsFromRight p
  pub taking_inclusive : DemandTwo p → ¬ DraftsInclusive p
  pub joining_by_and : DemandTwo p → ¬ DraftsByAnd p
  pub always_agreeing : DemandTwo p → ¬ AgreesAlways p
  pub always_differing : DemandTwo p → ¬ DiffersAlways p
  pub matching_from_front : DemandTwo p → ¬ ComparesFromFront p
  pub using_twice : DemandTwo p → ¬ ComparesTwice p
  pub ignoring_shape : DemandTwo p → ¬ ComparesAnyShape p
  pub counting_first : DemandTwo p → ¬ CountsFirstOnly p
  pub counting_refused : DemandTwo p → ¬ CountsWithRefused p
  pub counting_by_spine : DemandTwo p → ¬ CountsAlongSpine p
  pub counting_cut : DemandTwo p → ¬ CountsWithCut p
  pub judging_first : DemandTwo p → ¬ RunsAllAsFirst p
  pub stopping_at_refused : DemandTwo p → ¬ RunsUntilRefused p
  pub clearing_later_lem : DemandTwo p → ¬ RunsAndClears p
  pub telling_violated : DemandTwo p → ¬ RunsRefusedAsViolated p
  pub telling_last_steps : DemandTwo p → ¬ RunsForLastSteps p
  pub taking_cut : DemandTwo p → ¬ RunsWithCut p

abbrev pub WrongProgramsFail : Type 0
WrongProgramsFail = (p : Programs) → DemandsExclude p

-- so none keeps the promises
pub record Excluded (p : Programs) : Type 0 where
  pub refusing : ¬ RefusesAll p
  pub accepting : ¬ AcceptsAll p
  pub idle : ¬ WritesNothing p
  pub cutting : ¬ FirstPartOnly p
  pub barring : ¬ PassesNothing p
  pub admitting : ¬ PassesAll p
  pub wanting : ¬ WantsAllBlocks p
  pub counting : CountsRight p
  pub copying : ¬ CopiesText p
  pub leaving : ¬ LeavesParentheses p
  pub enclosing : ¬ EnclosesAll p
  pub confusing : ¬ WritesAndForSequel p
  pub forgetting : ¬ ForgetsBases p
  pub rewriting : ¬ WritesAddressesInHex p
  pub naming_last : ¬ NamesLastPart p
  pub following_spine : ¬ FollowsLeftSpine p
  pub showing_key : ¬ ShowsKeyForPriority p
  pub never_reusing : ¬ RechecksNever p
  pub always_reusing : ¬ RechecksAlways p
  pub wanting_equals : ¬ RechecksEqual p
  pub forgetting_priority : ¬ RechecksUnranked p
  pub comparing_readings : ¬ RechecksReadings p
  pub counting_priority : ¬ NamesPriority p
  pub missing_fields : ¬ NamesBareOnly p
  pub steps_by_code : ¬ StepsByCode p
  pub keeping_bool : ¬ SkipsKeepBool p
  pub landing_by_height : ¬ LandsByHeight p
  pub fixing_strings : ¬ FixesStrings p
  pub fixing_comments : ¬ FixesComments p
  pub fixing_with_zeros : ¬ FixesWithZeros p
  pub fixing_to_decimal : ¬ FixesToDecimal p
  pub reducing_still : ¬ ChecksReduced p
  pub looking_right : ¬ ChecksRightOperands p
  pub placing_at_operator : ¬ ChecksAtOperator p
  pub taking_none_below : ¬ ChecksAboveZero p
  pub inverting_last : ¬ DraftsLastInverted p
  pub joining_right : ¬ DraftsFromRight p
  pub taking_inclusive : ¬ DraftsInclusive p
  pub joining_by_and : ¬ DraftsByAnd p
  pub always_agreeing : ¬ AgreesAlways p
  pub always_differing : ¬ DiffersAlways p
  pub matching_from_front : ¬ ComparesFromFront p
  pub using_twice : ¬ ComparesTwice p
  pub ignoring_shape : ¬ ComparesAnyShape p
  pub counting_first : ¬ CountsFirstOnly p
  pub counting_refused : ¬ CountsWithRefused p
  pub counting_by_spine : ¬ CountsAlongSpine p
  pub counting_cut : ¬ CountsWithCut p
  pub judging_first : ¬ RunsAllAsFirst p
  pub stopping_at_refused : ¬ RunsUntilRefused p
  pub clearing_later_lem : ¬ RunsAndClears p
  pub telling_violated : ¬ RunsRefusedAsViolated p
  pub telling_last_steps : ¬ RunsForLastSteps p
  pub taking_cut : ¬ RunsWithCut p

abbrev pub NoWrongProgram : Type 0
NoWrongProgram = (p : Programs) → Kept p → Excluded p

-- one of the paddings, for `true; v == 0`: its blocks load, and accept an entry that the text calls violated

abbrev pub padded_text : List ℕ
padded_text = bytes "true; v == 0"

abbrev pub padded_blocks : List ℕ
padded_blocks = blocks_of 5 (push_bool true ∷ push_bool true ∷ connects both ∷ [])

pub record PaddingSeen : Type 0 where
  pub loads : load_answer the_keys padded_blocks ≡ ok 3
  pub runs : run_answer the_keys padded_blocks the_entry ≡ ok (record { accepted = true; steps = 3 })
  pub judged : judge_answer padded_text the_keys the_entry ≡ ok false
  pub not_carried : (n : ℕ) → ¬ Carries padded_text the_keys padded_blocks n
