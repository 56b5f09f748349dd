-- The three demands on the calls, each as one statement about what programs return for the bytes lent to them.
--
-- 1. "Any text, key list, entry or blocks get an answer. Every public entry point tests its own input. A refusal gives its number and
--    place as the documents fix them, and no byte of a lent buffer has changed."
-- 2. "The judgement is that of the p4-constraints specification, with document 01 where it is silent. Texts and entries are refused
--    exactly as the documents say; otherwise accepted exactly when the restriction holds."
-- 3. "For every text and list that pass, the blocks written load with that list, and running them gives demand 2's answer. Any other
--    blocks that load, whoever made them, run on every conforming entry to accepted or violated, each instruction once, never missing an
--    operand, never holding more than 384 values." With 02 g: "In demand 3 "each once" becomes "each at most once"."
use Rattle.std.specs.Prelude.{ℕ, ◌+◌, ◌*◌, ◌≤◌, ◌<◌, ◌≡◌, ◌↔◌, ◌⊎◌, Bool, true, false, length, take, drop, Result, Ok, Err}
use Rattle.paper.specs.declared.Refusal.{Refusal as Refused}
use Rattle.paper.specs.declared.Ended.{Ended}
use Rattle.paper.specs.declared.Summary.{Summary}
use Rattle.paper.specs.declared.Agreement.{Agreement}
use Rattle.paper.specs.declared.Verdict.TheVariants.{Accepted, Violated}
use Rattle.paper.specs.declared.Agreement.TheVariants.{Agrees, Differs}
use Rattle.std.proofs.Math.Option.{some}
use mathlib.Core.List.{List, [], ◌∷◌, map, Memᴰ}
use Rattle.paper.specs.declared.Place.{Place}
use Rattle.paper.specs.declared.Place.TheVariants as P
use Rattle.paper.specs.declared.Explanation.{Explanation}
use Rattle.paper.specs.declared.Rechecking.{Rechecking}
use Rattle.paper.specs.declared.Rechecking.TheVariants as K
use Rattle.paper.specs.Answers.{Input, in_text, in_list, in_entry, in_blocks, in_buffer, in_contract, in_table, Answer, ok, refused, says, judgement_says, running_says, refusal, Judgement, ended}
use Rattle.paper.specs.Tokens.{Token, most_text, most_tokens}
use Rattle.paper.specs.Keys.{Key, keys}
use Rattle.paper.specs.Entry.{Match, Entry, entry_of}
use Rattle.paper.specs.Grammar.{Tree, nodes, most_levels}
use Rattle.paper.specs.Sentences.{Valid}
use Rattle.paper.specs.Types.{bool, type_of}
use Rattle.paper.specs.Meaning.{truth, value_of}
use Rattle.paper.specs.Blocks.{block_size, blocks_needed}
use Rattle.paper.specs.Loading.{program, loaded, done, run_along, Step}
use Rattle.paper.specs.Translating.{conversions, joins, steps_of}
use Rattle.paper.specs.Print.{print}
use Rattle.paper.specs.Sized.{levels, count}
use Rattle.paper.specs.Calls.{over}
use Rattle.paper.specs.Explained.{explanation_says}
use Rattle.paper.specs.ExplainedRight.{Explains, judgement_of}
use Rattle.paper.specs.Named.{summarizing_says, summed}
use Rattle.paper.specs.Rechecking.{rechecking_says}
use Rattle.paper.specs.Fixing.{old_scan, fixed}
use Rattle.paper.specs.Pact.{most_indices, Clause, contract_holds, contract_bytes, AllIndexed}
use Rattle.paper.specs.Drafting.{contract_tree, names_of}
use Rattle.paper.specs.Parts.{Part, parts}
use Rattle.paper.specs.PartsDecide.{roots}
use Rattle.paper.specs.Comparing.{Ours, agreement_says}
use Rattle.paper.specs.Counting.{whole_in, cut_in, Counts, counts_of, most_entries, totals_of, counting_says}
use Rattle.paper.specs.RunAll.{Verdicts, verdicts_on, all_ran, running_all_says}
use Rattle.paper.specs.BlocksRoundTrip.{All}
use Rattle.paper.specs.RecheckedRight.{Summarizes, Rechecks}
use Rattle.paper.specs.LoadedBlocksRun.{Runs}
use Rattle.paper.specs.CodeCorrect.{most_translated}
use Rattle.paper.specs.Faults.{CutsBy, Cuts}
use Rattle.paper.specs.Table.{last_number, Stage, Clear, ByTable, read_stages, check_stages, judge_stages, translate_stages, load_stages, run_stages, print_stages, fix_stages, draft_stages, compare_stages, count_stages, run_all_stages}
use Rattle.paper.specs.Promised.{JudgePromised, verdict, verdict_in, judgement_of_run, TranslateResult, PrintResult, FixResult, DraftResult, CountResult, RunAllResult, Bytes, UserNumbers, PartNumbers, Programs, Kept}

-- Demand 1. An answer is one of the enum's cases. It is a refusal exactly as the table of 01 says, with that number at that place, and
-- passes exactly when no stage of the call has a fault. The number is one of the table's, and the place lies in an input that was lent, or
-- at its length. An explanation answers by the judgement that it tells; a recheck that judged, by the judgement of the new entry, and one
-- that reused, by the earlier answer as it was given, where no stage of that judgement has a fault.

pub record Lent : Type 0 where
  pub input : Input
  pub bytes : List ℕ

abbrev pub lent : Input → List ℕ → Lent
lent i s = record { input = i; bytes = s }

pub record Refusal (inputs : List Lent) (n : ℕ) (i : Input) (at : ℕ) : Type 0 where
  pub low : 1 ≤ n
  pub high : n ≤ last_number
  pub lies : Lent
  pub among : Memᴰ lies inputs
  pub named : i ≡ lies.input
  pub inside : at ≤ length lies.bytes

-- what a call with these inputs and stages says
pub record Answered {A : Type 0} (inputs : List Lent) (stages : List Stage) (a : Answer A) : Type 0 where
  pub table : ByTable a stages
  pub inside : (n : ℕ) (i : Input) (at : ℕ) → a ≡ refused n i at → Refusal inputs n i at

-- for the inputs of each call, and what it answers for them

abbrev pub ReadAnswered : List ℕ → Result ℕ Refused → Type 0
ReadAnswered text r = Answered (lent in_text text ∷ []) (read_stages text) (says r)

abbrev pub CheckAnswered : List ℕ → List ℕ → Result (Unit {0}) Refused → Type 0
CheckAnswered text list r = Answered (lent in_text text ∷ lent in_list list ∷ []) (check_stages text list) (says r)

-- by judging, or by explaining
abbrev pub EntryAnswered : List ℕ → List ℕ → List ℕ → Answer Bool → Type 0
EntryAnswered text list entry a = Answered (lent in_text text ∷ lent in_list list ∷ lent in_entry entry ∷ []) (judge_stages text list entry) a

abbrev pub JudgeAnswered : List ℕ → List ℕ → List ℕ → Judgement → Type 0
JudgeAnswered text list entry r = EntryAnswered text list entry (judgement_says r)

abbrev pub ExplainAnswered : List ℕ → List ℕ → List ℕ → Explanation → Type 0
ExplainAnswered text list entry r = EntryAnswered text list entry (judgement_of (explanation_says r))

-- and the buffer, which a refusal leaves as it is
pub record TranslateAnswered (text list buffer : List ℕ) (r : TranslateResult) : Type 0 where
  pub says : Answered (lent in_text text ∷ lent in_list list ∷ lent in_buffer buffer ∷ []) (translate_stages text list buffer)
      (says r.answer)
  pub unchanged : (v : Refused) → r.answer ≡ Err v → r.buffer ≡ buffer

abbrev pub LoadAnswered : List ℕ → List ℕ → Result ℕ Refused → Type 0
LoadAnswered list blocks r = Answered (lent in_list list ∷ lent in_blocks blocks ∷ []) (load_stages list blocks) (says r)

abbrev pub RunAnswered : List ℕ → List ℕ → List ℕ → Result Ended Refused → Type 0
RunAnswered list blocks entry r =
    Answered (lent in_list list ∷ lent in_blocks blocks ∷ lent in_entry entry ∷ []) (run_stages list blocks entry) (running_says r)

pub record PrintAnswered (text buffer : List ℕ) (r : PrintResult) : Type 0 where
  pub says : Answered (lent in_text text ∷ lent in_buffer buffer ∷ []) (print_stages text buffer) (says r.answer)
  pub unchanged : (v : Refused) → r.answer ≡ Err v → r.buffer ≡ buffer

pub record FixAnswered (text buffer : List ℕ) (r : FixResult) : Type 0 where
  pub says : Answered (lent in_text text ∷ lent in_buffer buffer ∷ []) (fix_stages text buffer) (says r.answer)
  pub unchanged : (v : Refused) → r.answer ≡ Err v → r.buffer ≡ buffer

-- the offset in a table counts its numbers
pub record DraftAnswered (contract table list buffer : List ℕ) (r : DraftResult) : Type 0 where
  pub says : Answered (lent in_contract contract ∷ lent in_table table ∷ lent in_list list ∷ lent in_buffer buffer ∷ [])
      (draft_stages contract table list buffer) (says r.answer)
  pub unchanged : (v : Refused) → r.answer ≡ Err v → r.buffer ≡ buffer

abbrev pub CompareAnswered : List ℕ → List ℕ → List ℕ → Result Agreement Refused → Type 0
CompareAnswered text list blocks r =
    Answered (lent in_text text ∷ lent in_list list ∷ lent in_blocks blocks ∷ []) (compare_stages text list blocks) (agreement_says r)

pub record CountAnswered (text list entries numbers : List ℕ) (r : CountResult) : Type 0 where
  pub says : Answered (lent in_text text ∷ lent in_list list ∷ lent in_entry entries ∷ []) (count_stages text list entries)
      (counting_says r.answer)
  pub unchanged : (v : Refused) → r.answer ≡ Err v → r.numbers ≡ numbers

pub record RunAllAnswered (list blocks entries answers : List ℕ) (r : RunAllResult) : Type 0 where
  pub says : Answered (lent in_list list ∷ lent in_blocks blocks ∷ lent in_entry entries ∷ lent in_buffer answers ∷ [])
      (run_all_stages list blocks entries answers) (running_all_says r.answer)
  pub unchanged : (v : Refused) → r.answer ≡ Err v → r.bytes ≡ answers

abbrev pub SummarizeAnswered : List ℕ → List ℕ → Result Summary Refused → Type 0
SummarizeAnswered text list r = Answered (lent in_text text ∷ lent in_list list ∷ []) (check_stages text list) (summarizing_says r)

abbrev pub RecheckAnswered : List ℕ → List ℕ → Judgement → List ℕ → Rechecking → Type 0
RecheckAnswered text list earlier new (K.Reused j) = (j ≡ earlier) × Clear (judge_stages text list new)
RecheckAnswered text list earlier new (K.Judged j) = JudgeAnswered text list new j

pub record DemandOne (p : Programs) : Type 0 where
  pub read : (text : List ℕ) → Bytes text → ReadAnswered text (p.read text)
  pub check : (text list : List ℕ) → Bytes text → Bytes list → CheckAnswered text list (p.check text list)
  pub judge : (text list entry : List ℕ) → Bytes text → Bytes list → Bytes entry → JudgeAnswered text list entry (p.judge text list entry)
  pub translate : (text list buffer : List ℕ) → Bytes text → Bytes list → Bytes buffer
      → TranslateAnswered text list buffer (p.translate text list buffer)
  pub load : (list blocks : List ℕ) → Bytes list → Bytes blocks → LoadAnswered list blocks (p.load list blocks)
  pub run : (list blocks entry : List ℕ) → Bytes list → Bytes blocks → Bytes entry → RunAnswered list blocks entry (p.run list blocks entry)
  pub print : (text buffer : List ℕ) → Bytes text → Bytes buffer → PrintAnswered text buffer (p.print text buffer)
  pub explain : (text list entry : List ℕ) → Bytes text → Bytes list → Bytes entry
      → ExplainAnswered text list entry (p.explain text list entry)
  pub summarize : (text list : List ℕ) → Bytes text → Bytes list → SummarizeAnswered text list (p.summarize text list)
  pub recheck : (text list old : List ℕ) (earlier : Judgement) (new : List ℕ) → Bytes text → Bytes list → Bytes old → Bytes new
      → RecheckAnswered text list earlier new (p.recheck text list old earlier new)
  pub fix : (text buffer : List ℕ) → Bytes text → Bytes buffer → FixAnswered text buffer (p.fix text buffer)
  pub draft : (contract table list buffer : List ℕ) → Bytes contract → UserNumbers table → Bytes list → Bytes buffer
      → DraftAnswered contract table list buffer (p.draft contract table list buffer)
  pub compare : (text list blocks : List ℕ) → Bytes text → Bytes list → Bytes blocks → CompareAnswered text list blocks (p.compare text list blocks)
  pub count : (text list entries numbers : List ℕ) → Bytes text → Bytes list → Bytes entries → PartNumbers numbers
      → CountAnswered text list entries numbers (p.count text list entries numbers)
  pub run_all : (list blocks entries answers : List ℕ) → Bytes list → Bytes blocks → Bytes entries → Bytes answers
      → RunAllAnswered list blocks entries answers (p.run_all list blocks entries answers)

-- Demand 2, for every call that takes a text or an entry. A text is refused exactly when it is over a limit or ill-formed, the list does
-- not pass, or the text is ill-typed against it; an entry exactly when it does not conform to the list. Else it is accepted exactly when
-- the restriction holds of it. What is explained of an entry, what a summary has and when an answer is reused is what 02 asks, in terms of
-- the judgement and of what the text names.

-- within the limits, and a sentence
pub record WellFormed (text : List ℕ) (root : Tree) : Type 0 where
  pub short : length text ≤ most_text
  pub words : List Token
  pub cut : Cuts text words
  pub sentence : Valid root words

-- and of type bool with the keys of a list
pub record Checkable (text list : List ℕ) : Type 0 where
  pub root : Tree
  pub formed : WellFormed text root
  pub ks : List Key
  pub listed : keys list ≡ ok ks
  pub typed : type_of ks root ≡ ok bool

-- with an entry that conforms
pub record Judgeable (text list entry : List ℕ) : Type 0 where
  pub passes : Checkable text list
  pub on : Entry
  pub conforms : entry_of passes.ks entry ≡ ok on

-- blocks that load, with an entry that conforms
pub record Runnable (list blocks entry : List ℕ) : Type 0 where
  pub ks : List Key
  pub listed : keys list ≡ ok ks
  pub count : ℕ
  pub loads : loaded ks blocks ≡ ok count
  pub on : Entry
  pub conforms : entry_of ks entry ≡ ok on

abbrev pub Refuses : Judgement → Type 0
Refuses r = (v : Refused) × (r ≡ Err v)

-- for the inputs of each call, and what it answers for them

abbrev pub ReadRight : List ℕ → Result ℕ Refused → Type 0
ReadRight text r = (n : ℕ) → (r ≡ Ok n) ↔ ((root : Tree) × WellFormed text root × (nodes root ≡ n))

abbrev pub CheckedRight : List ℕ → List ℕ → Result (Unit {0}) Refused → Type 0
CheckedRight text list r = (r ≡ Ok tt) ↔ Checkable text list

pub record JudgedRight (text list entry : List ℕ) (r : Judgement) : Type 0 where
  pub refuses : Refuses r ↔ ¬ Judgeable text list entry
  pub accepts : (j : Judgeable text list entry)
      → (r ≡ Ok Accepted) ↔ (value_of j.passes.ks j.on j.passes.root ≡ some (truth true))
  pub violates : (j : Judgeable text list entry)
      → (r ≡ Ok Violated) ↔ (value_of j.passes.ks j.on j.passes.root ≡ some (truth false))

-- n instructions, as 01 and 02 g count them, for a buffer that their blocks fit in
pub record Translatable (text list buffer : List ℕ) (n : ℕ) : Type 0 where
  pub passes : Checkable text list
  pub count : n ≡ nodes passes.root + conversions passes.ks passes.root + joins passes.root
  pub room : block_size * blocks_needed n ≤ length buffer

abbrev pub TranslatedRight : List ℕ → List ℕ → List ℕ → TranslateResult → Type 0
TranslatedRight text list buffer r = (n : ℕ) → (r.answer ≡ Ok n) ↔ Translatable text list buffer n

-- n bytes, the print of a text that is well-formed, for a buffer that they fit in
pub record Printable (text buffer : List ℕ) (n : ℕ) : Type 0 where
  pub root : Tree
  pub formed : WellFormed text root
  pub count : n ≡ length (print root)
  pub short : n ≤ most_text
  pub room : n ≤ length buffer

-- they are written, and "Bytes after a print .. stay"
pub record PrintedRight (text buffer : List ℕ) (r : PrintResult) : Type 0 where
  pub prints : (n : ℕ) → (r.answer ≡ Ok n) ↔ Printable text buffer n
  pub written : (n : ℕ) (p : Printable text buffer n) → r.buffer ≡ over (print p.root) buffer

-- n bytes, what 02 h's pass makes of a text that is cut into tokens by the old rules, for a buffer that they fit in
pub record Fixable (text buffer : List ℕ) (n : ℕ) : Type 0 where
  pub short : length text ≤ most_text
  pub words : List Token
  pub cut : CutsBy old_scan text words
  pub count : n ≡ length (fixed text)
  pub room : n ≤ length buffer

-- they are written, and the bytes after them stay
pub record FixesRight (text buffer : List ℕ) (r : FixResult) : Type 0 where
  pub fixes : (n : ℕ) → (r.answer ≡ Ok n) ↔ Fixable text buffer n
  pub written : (n : ℕ) → Fixable text buffer n → r.buffer ≡ over (fixed text) buffer

-- n bytes, the text of a contract that has a meaning with those names and user numbers, within 01's limits, for a buffer that they fit in
pub record Draftable (contract table list buffer : List ℕ) (n : ℕ) : Type 0 where
  pub ks : List Key
  pub named : names_of list ≡ ok ks
  pub few : length table ≤ most_indices
  pub clauses : List Clause
  pub meant : contract ≡ contract_bytes clauses
  pub indexed : All (AllIndexed (length ks) (length table)) clauses
  pub root : Tree
  pub made : root ≡ contract_tree (map (λ (k : Key). k.name) ks) table clauses
  pub tokens : count root ≤ most_tokens
  pub deep : levels root ≤ most_levels
  pub size : n ≡ length (print root)
  pub short : n ≤ most_text
  pub room : n ≤ length buffer

-- they are written, and the bytes after them stay
pub record DraftsRight (contract table list buffer : List ℕ) (r : DraftResult) : Type 0 where
  pub drafts : (n : ℕ) → (r.answer ≡ Ok n) ↔ Draftable contract table list buffer n
  pub written : (n : ℕ) (d : Draftable contract table list buffer n) → r.buffer ≡ over (print d.root) buffer

-- the numbers of the inputs in an entry
abbrev pub inputs_of : Entry → List ℕ
inputs_of e = map (λ (m : Match). m.first) e.matches

-- "The text judged on an entry with those inputs equals the contract's own meaning, written from 000."; it passes with those names
pub record DraftMeans (p : Programs) (contract table list buffer : List ℕ) : Type 0 where
  pub passes : (n : ℕ) → Draftable contract table list buffer n
      → p.check (take n (p.draft contract table list buffer).buffer) list ≡ Ok tt
  pub judged : (n : ℕ) (d : Draftable contract table list buffer n) (entry : List ℕ) (e : Entry) → Bytes entry → entry_of d.ks entry ≡ ok e
      → p.judge (take n (p.draft contract table list buffer).buffer) list entry ≡ verdict (contract_holds (inputs_of e) table d.clauses)

-- a text that passes with a list, its parts, and blocks that load with the list
pub record Comparable (text list blocks : List ℕ) : Type 0 where
  pub passes : Checkable text list
  pub ps : List Part
  pub divided : parts text ≡ ok ps
  pub count : ℕ
  pub loads : loaded passes.ks blocks ≡ ok count

-- ""agrees" exactly when the blocks load and are our translation of the same top-level parts .. Blocks that load and do not fit give
-- "differs".": every other text, list or blocks is refused
pub record CompareRight (text list blocks : List ℕ) (r : Result Agreement Refused) : Type 0 where
  pub compares : ((r ≡ Ok Agrees) ⊎ (r ≡ Ok Differs)) ↔ Comparable text list blocks
  pub agrees : (c : Comparable text list blocks) → (r ≡ Ok Agrees) ↔ Ours c.passes.ks (roots c.ps) blocks

-- "Agreement means equal answers on every conforming entry.", and the same refusals of every other
abbrev pub AgreementMeans : Programs → List ℕ → List ℕ → List ℕ → Type 0
AgreementMeans p text list blocks =
    p.compare text list blocks ≡ Ok Agrees
    → (entry : List ℕ) → Bytes entry → judgement_of_run (p.run list blocks entry) ≡ p.judge text list entry

-- a text that passes with a list, its parts, and no more entries than are counted
pub record Countable (text list entries : List ℕ) : Type 0 where
  pub passes : Checkable text list
  pub ps : List Part
  pub divided : parts text ≡ ok ps
  pub few : whole_in passes.ks entries ≤ most_entries

abbrev pub counts_in : (text list entries : List ℕ) → Countable text list entries → Counts
counts_in text list entries c = counts_of c.passes.ks c.passes.root c.ps entries

-- "Each number equals a definition over the list of entries.": every other text, list or file is refused
pub record CountRight (text list entries numbers : List ℕ) (r : CountResult) : Type 0 where
  pub refuses : ((v : Refused) × (r.answer ≡ Err v)) ↔ ¬ Countable text list entries
  pub totals : (c : Countable text list entries)
      → counting_says r.answer ≡ ok (totals_of (counts_in text list entries c))
  pub written : (c : Countable text list entries) → r.numbers ≡ over (counts_in text list entries c).parts numbers

-- a run of blocks leaves one bool, in so many steps
abbrev pub LeavesIn : (list blocks entry : List ℕ) → Runnable list blocks entry → Bool → ℕ → Type 0
LeavesIn list blocks entry j b n =
    (path : List Step) × (run_along j.ks j.on (program blocks) ≡ done path (truth b ∷ [])) × (length path ≡ n)

-- "The entry is accepted exactly when the bool left at the end is true, else violated; this holds for all blocks that load"; "Running
-- reports the steps taken"
pub record RanRight (list blocks entry : List ℕ) (r : Result Ended Refused) : Type 0 where
  pub refuses : ((v : Refused) × (r ≡ Err v)) ↔ ¬ Runnable list blocks entry
  pub accepts : (j : Runnable list blocks entry) (n : ℕ) → (r ≡ ended Accepted n) ↔ LeavesIn list blocks entry j true n
  pub violates : (j : Runnable list blocks entry) (n : ℕ) → (r ≡ ended Violated n) ↔ LeavesIn list blocks entry j false n

-- blocks that load, entries of which none is cut, and an answer for each
pub record AllRunnable (list blocks entries answers : List ℕ) : Type 0 where
  pub ks : List Key
  pub listed : keys list ≡ ok ks
  pub count : ℕ
  pub loads : loaded ks blocks ≡ ok count
  pub whole : cut_in ks entries ≡ 0
  pub room : whole_in ks entries ≤ length answers

abbrev pub verdicts_in : (list blocks entries answers : List ℕ) → AllRunnable list blocks entries answers → Verdicts
verdicts_in list blocks entries answers j = verdicts_on j.ks blocks entries

-- "loads once, then a byte for each entry laid end to end (accepted, violated, refused 20); later bytes of the answers stay": every other list,
-- blocks, entries or answers are refused
pub record RunAllRight (list blocks entries answers : List ℕ) (r : RunAllResult) : Type 0 where
  pub refuses : ((v : Refused) × (r.answer ≡ Err v)) ↔ ¬ AllRunnable list blocks entries answers
  pub totals : (j : AllRunnable list blocks entries answers)
      → running_all_says r.answer ≡ ok (all_ran (verdicts_in list blocks entries answers j))
  pub written : (j : AllRunnable list blocks entries answers)
      → r.bytes ≡ over (verdicts_in list blocks entries answers j).bytes answers

-- "For a violated entry, name the first false part .."
abbrev pub ExplainRight : List ℕ → List ℕ → List ℕ → Explanation → Type 0
ExplainRight text list entry r = Explains text list entry (explanation_says r)

-- "one bit for each key the text names, and a mark for ::priority", of every text and list that pass
pub record SummarizeRight (text list : List ℕ) (r : Result Summary Refused) : Type 0 where
  pub passes : ((keys : ℕ) × (priority : Bool) × (r ≡ summed keys priority)) ↔ Checkable text list
  pub summary : (keys : ℕ) (priority : Bool) → r ≡ summed keys priority → (c : Checkable text list)
      → Summarizes c.ks c.root (record { keys = keys; priority = priority })

-- the judgement that a recheck comes to
abbrev pub judgement_in : Rechecking → Judgement
judgement_in (K.Reused j) = j
judgement_in (K.Judged j) = j

-- "the recheck reuses that answer exactly when ..; otherwise it judges the new entry, refusals included .. If the earlier answer is the old
-- entry's true judgement, the result is the judgement worked out afresh for the new one."
pub record RecheckRight (text list old : List ℕ) (earlier : Judgement) (new : List ℕ) (r : Rechecking) : Type 0 where
  pub rechecks : Rechecks text list old (judgement_says earlier) new (rechecking_says r)
  pub judges : (j : Judgement) → r ≡ K.Judged j → JudgedRight text list new j
  pub fresh : JudgePromised text list old earlier → JudgePromised text list new (judgement_in r)

pub record DemandTwo (p : Programs) : Type 0 where
  pub reads : (text : List ℕ) → Bytes text → ReadRight text (p.read text)
  pub checks : (text list : List ℕ) → Bytes text → Bytes list → CheckedRight text list (p.check text list)
  pub judges : (text list entry : List ℕ) → Bytes text → Bytes list → Bytes entry → JudgedRight text list entry (p.judge text list entry)
  pub translates : (text list buffer : List ℕ) → Bytes text → Bytes list → Bytes buffer
      → TranslatedRight text list buffer (p.translate text list buffer)
  pub runs : (list blocks entry : List ℕ) → Bytes list → Bytes blocks → Bytes entry → RanRight list blocks entry (p.run list blocks entry)
  pub prints : (text buffer : List ℕ) → Bytes text → Bytes buffer → PrintedRight text buffer (p.print text buffer)
  pub explains : (text list entry : List ℕ) → Bytes text → Bytes list → Bytes entry → ExplainRight text list entry (p.explain text list entry)
  pub summarizes : (text list : List ℕ) → Bytes text → Bytes list → SummarizeRight text list (p.summarize text list)
  pub rechecks : (text list old : List ℕ) (earlier : Judgement) (new : List ℕ) → Bytes text → Bytes list → Bytes old → Bytes new
      → RecheckRight text list old earlier new (p.recheck text list old earlier new)
  pub fixes : (text buffer : List ℕ) → Bytes text → Bytes buffer → FixesRight text buffer (p.fix text buffer)
  pub drafts : (contract table list buffer : List ℕ) → Bytes contract → UserNumbers table → Bytes list → Bytes buffer
      → DraftsRight contract table list buffer (p.draft contract table list buffer)
  pub drafts_mean : (contract table list buffer : List ℕ) → Bytes contract → UserNumbers table → Bytes list → Bytes buffer
      → DraftMeans p contract table list buffer
  pub compares : (text list blocks : List ℕ) → Bytes text → Bytes list → Bytes blocks → CompareRight text list blocks (p.compare text list blocks)
  pub agreement_means : (text list blocks : List ℕ) → Bytes text → Bytes list → Bytes blocks → AgreementMeans p text list blocks
  pub counts : (text list entries numbers : List ℕ) → Bytes text → Bytes list → Bytes entries → PartNumbers numbers
      → CountRight text list entries numbers (p.count text list entries numbers)
  pub runs_all : (list blocks entries answers : List ℕ) → Bytes list → Bytes blocks → Bytes entries → Bytes answers
      → RunAllRight list blocks entries answers (p.run_all list blocks entries answers)

-- Demand 3. A text and a list that pass have a number of instructions, and are translated with it into every buffer that has room for
-- its blocks; every other buffer is refused, 15 at its length. The blocks written load with that list, with the number returned, and
-- running them on any entry gives what judging the text gives, refusals included, in the steps that are counted over its tree; the buffer's
-- later bytes stay. And all blocks that load, whoever made them, run on every conforming entry to accepted or violated, as `Runs` says.

pub record Translates (p : Programs) (text list : List ℕ) : Type 0 where
  pub count : ℕ
  pub few : count ≤ most_translated
  pub enough : (buffer : List ℕ) → Bytes buffer → block_size * blocks_needed count ≤ length buffer
      → (p.translate text list buffer).answer ≡ Ok count
  pub short : (buffer : List ℕ) → Bytes buffer → length buffer < block_size * blocks_needed count
      → (p.translate text list buffer).answer ≡ refusal 15 (P.Buffer (length buffer))

abbrev pub blocks_written : ℕ → List ℕ → List ℕ
blocks_written n exit = take (block_size * blocks_needed n) exit

-- n instructions written to a buffer, which then holds `exit`, and what loading the blocks there answers
pub record Carried (buffer exit : List ℕ) (n : ℕ) (loaded : Result ℕ Refused) : Type 0 where
  pub room : block_size * blocks_needed n ≤ length buffer
  pub loads : loaded ≡ Ok n
  pub later : drop (block_size * blocks_needed n) exit ≡ drop (block_size * blocks_needed n) buffer

pub record Judged (p : Programs) (list blocks entry : List ℕ) (ks : List Key) (e : Entry) (n : ℕ) : Type 0 where
  pub goes : Runs ks e blocks n
  pub answer : p.run list blocks entry ≡ verdict_in goes.bit (length goes.path)

pub record DemandThree (p : Programs) : Type 0 where
  pub translates : (text list : List ℕ) → Bytes text → Bytes list → p.check text list ≡ Ok tt → Translates p text list
  pub bytes : (text list buffer : List ℕ) → Bytes text → Bytes list → Bytes buffer → Bytes (p.translate text list buffer).buffer
  pub carries : (text list buffer : List ℕ) → Bytes text → Bytes list → Bytes buffer → (n : ℕ)
      → (p.translate text list buffer).answer ≡ Ok n
      → Carried buffer (p.translate text list buffer).buffer n (p.load list (blocks_written n (p.translate text list buffer).buffer))
  pub runs_alike : (text list buffer : List ℕ) → Bytes text → Bytes list → Bytes buffer → (n : ℕ)
      → (p.translate text list buffer).answer ≡ Ok n → (entry : List ℕ) → Bytes entry
      → judgement_of_run (p.run list (blocks_written n (p.translate text list buffer).buffer) entry) ≡ p.judge text list entry
  pub steps_counted : (text list buffer : List ℕ) → Bytes text → Bytes list → Bytes buffer → (n : ℕ)
      → (p.translate text list buffer).answer ≡ Ok n → (entry : List ℕ) → Bytes entry → (j : Judgeable text list entry) → (b : Bool) (m : ℕ)
      → p.run list (blocks_written n (p.translate text list buffer).buffer) entry ≡ verdict_in b m
      → m ≡ steps_of j.passes.ks j.on j.passes.root
  pub runs : (list blocks : List ℕ) → Bytes list → Bytes blocks → (n : ℕ) → p.load list blocks ≡ Ok n
      → (ks : List Key) → keys list ≡ ok ks → (entry : List ℕ) → Bytes entry → (e : Entry) → entry_of ks entry ≡ ok e
      → Judged p list blocks entry ks e n

-- programs that keep the promises meet them

abbrev pub DemandOneMet : Type 0
DemandOneMet = (p : Programs) → Kept p → DemandOne p

abbrev pub DemandTwoMet : Type 0
DemandTwoMet = (p : Programs) → Kept p → DemandTwo p

abbrev pub DemandThreeMet : Type 0
DemandThreeMet = (p : Programs) → Kept p → DemandThree p
