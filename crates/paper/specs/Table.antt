-- 01, "Refusal numbers": "Stages run in the order below, those that a call has. In a stage the earliest place wins; at one place the
-- lower number wins." For each call: it refuses exactly so, and passes exactly when no stage has a fault.
use Rattle.std.specs.Prelude.{ℕ, ◌≤◌, ◌<◌, ◌≡◌, ◌↔◌, ◌⊎◌, List, [], ◌∷◌, ◌++◌, length}
use Rattle.paper.specs.Answers.{Input, in_text, in_list, in_entry, in_blocks, in_buffer, in_contract, in_table, Answer, ok, refused}
use Rattle.paper.specs.Tokens.{Token, tokens}
use Rattle.paper.specs.Keys.{RecordRule, layout_rule, keys}
use Rattle.paper.specs.Print.{print}
use Rattle.paper.specs.Calls.{tree, restriction, read_answer, check_answer, judge_answer, translate_answer, load_answer, run_answer, print_answer}
use Rattle.paper.specs.Named.{summary_answer}
use Rattle.paper.specs.Fixing.{old_scan, fixed, fix_answer}
use Rattle.paper.specs.Drafting.{name_rule, names_of, drafted, draft_answer}
use Rattle.paper.specs.Comparing.{compare_answer}
use Rattle.paper.specs.Counting.{count_answer}
use Rattle.paper.specs.RunAll.{run_all_answer}
use Rattle.paper.specs.Faults.{Faults, TextSize, ListSize, ListRecords, Cuts, TokenFaults, TextTokens, TextGrammar, TreeTypes, RootType, BufferSize, BlocksSize, BlocksLayout, BlocksCode, EntrySize, EntryRules, EntriesMany, EntriesSize, AnswersSize, LendingSize, TableSize, ContractFaults, TextLimits}

-- the table's numbers run from 1 to this one
abbrev pub last_number : ℕ
last_number = 25

-- "In a stage the earliest place wins; at one place the lower number wins."

abbrev pub Sooner : ℕ → ℕ → ℕ → ℕ → Type 0
Sooner n at m to = (at < to) ⊎ ((at ≡ to) × (n ≤ m))

pub record Wins (F : Faults) (n at : ℕ) : Type 0 where
  pub fault : F n at
  pub first : (m to : ℕ) → F m to → Sooner n at m to

abbrev pub Free : Faults → Type 0
Free F = (n at : ℕ) → ¬ F n at

-- "Stages run in the order below, those that a call has."

pub record Stage : Type 1 where
  pub input : Input
  pub faults : Faults

abbrev pub stage : Input → Faults → Stage
stage i F = record { input = i; faults = F }

-- the first stage that has a fault gives the one that wins there
abbrev pub Decided : List Stage → ℕ → Input → ℕ → Type 0
Decided [] n i at = ⊥
Decided (s ∷ ss) n i at = ((i ≡ s.input) × Wins s.faults n at) ⊎ (Free s.faults × Decided ss n i at)

-- no stage has a fault
abbrev pub Clear : List Stage → Type 0
Clear [] = Unit {0}
Clear (s ∷ ss) = Free s.faults × Clear ss

pub record ByTable {A : Type 0} (a : Answer A) (ss : List Stage) : Type 0 where
  pub refuses : (n : ℕ) (i : Input) (at : ℕ) → (a ≡ refused n i at) ↔ Decided ss n i at
  pub passes : ((v : A) × (a ≡ ok v)) ↔ Clear ss

-- faults of what an earlier stage passed on
abbrev pub Given : {A : Type 0} → Answer A → (A → Faults) → Faults
Given {A} x F n at = (v : A) × (x ≡ ok v) × F v n at

-- 1
abbrev pub size_stages : List ℕ → List Stage
size_stages text = stage in_text (TextSize text) ∷ []

-- 2; 3 and 4
abbrev pub list_stages_by : RecordRule → List ℕ → List Stage
list_stages_by rule list = stage in_list (ListSize list) ∷ stage in_list (ListRecords rule list) ∷ []

abbrev pub list_stages : List ℕ → List Stage
list_stages list = list_stages_by layout_rule list

-- 5 to 7 and 22; 8 to 10
abbrev pub tree_stages : List ℕ → List Stage
tree_stages text = stage in_text (TextTokens text) ∷ stage in_text (Given (tokens text) (TextGrammar (length text))) ∷ []

-- 11 to 13 and 23; 14
abbrev pub type_stages : List ℕ → List ℕ → List Stage
type_stages text list =
    stage in_text (Given (keys list) (λ ks. Given (tree text) (TreeTypes ks)))
    ∷ stage in_text (Given (keys list) (λ ks. Given (tree text) (RootType ks)))
    ∷ []

-- 15
abbrev pub buffer_stages : List ℕ → List ℕ → List ℕ → List Stage
buffer_stages text list buffer = stage in_buffer (Given (restriction text list) (λ r. BufferSize r buffer)) ∷ []

-- 16; 17; 18
abbrev pub block_stages : List ℕ → List ℕ → List Stage
block_stages list blocks =
    stage in_blocks (BlocksSize blocks)
    ∷ stage in_blocks (Given (keys list) (λ ks. BlocksLayout (length ks) blocks))
    ∷ stage in_blocks (Given (keys list) (λ ks. BlocksCode ks blocks))
    ∷ []

-- 19; 20
abbrev pub entry_stages : List ℕ → List ℕ → List Stage
entry_stages list entry =
    stage in_entry (Given (keys list) (λ ks. EntrySize ks entry))
    ∷ stage in_entry (Given (keys list) (λ ks. EntryRules ks entry))
    ∷ []

-- 25; no entry of many has a wrong length, and one that breaks its rule is counted
abbrev pub entries_stages : List ℕ → List ℕ → List Stage
entries_stages list entries = stage in_entry (Given (keys list) (λ ks. EntriesMany ks entries)) ∷ []

-- 19, and then 15. In 01's order 15 comes before every number of blocks and entries: `translate` knows what it needs from the text. How many
-- answers are wanted is known once no entry is cut, so that here it comes last
abbrev pub table_stages : List ℕ → List ℕ → List ℕ → List Stage
table_stages list entries answers =
    stage in_entry (Given (keys list) (λ ks. EntriesSize ks entries))
    ∷ stage in_buffer (Given (keys list) (λ ks. AnswersSize ks entries answers))
    ∷ []

-- 21
abbrev pub printing_stages : List ℕ → List ℕ → List Stage
printing_stages text buffer = stage in_buffer (Given (tree text) (λ t. LendingSize (print t) buffer)) ∷ []

-- 5 to 7 by the old rules, and 21 of what 02 h's pass makes
abbrev pub fixing_stages : List ℕ → List ℕ → List Stage
fixing_stages text buffer = stage in_text (TokenFaults old_scan text) ∷ stage in_buffer (LendingSize (fixed text) buffer) ∷ []

-- 24 of the table; 24 of the contract; 21 of the text that 02 k makes of it
abbrev pub drafting_stages : List ℕ → List ℕ → List ℕ → List ℕ → List Stage
drafting_stages contract table list buffer =
    stage in_table (TableSize table)
    ∷ stage in_contract (Given (names_of list) (λ ks. ContractFaults (length ks) (length table) contract))
    ∷ stage in_buffer (Given (drafted contract table list) (λ t. TextLimits t buffer))
    ∷ stage in_buffer (Given (drafted contract table list) (λ t. LendingSize (print t) buffer))
    ∷ []

-- those that each call has

abbrev pub read_stages : List ℕ → List Stage
read_stages text = size_stages text ++ tree_stages text

abbrev pub check_stages : List ℕ → List ℕ → List Stage
check_stages text list = size_stages text ++ list_stages list ++ tree_stages text ++ type_stages text list

abbrev pub judge_stages : List ℕ → List ℕ → List ℕ → List Stage
judge_stages text list entry = check_stages text list ++ entry_stages list entry

abbrev pub translate_stages : List ℕ → List ℕ → List ℕ → List Stage
translate_stages text list buffer = check_stages text list ++ buffer_stages text list buffer

abbrev pub load_stages : List ℕ → List ℕ → List Stage
load_stages list blocks = list_stages list ++ block_stages list blocks

abbrev pub run_stages : List ℕ → List ℕ → List ℕ → List Stage
run_stages list blocks entry = load_stages list blocks ++ entry_stages list entry

abbrev pub print_stages : List ℕ → List ℕ → List Stage
print_stages text buffer = read_stages text ++ printing_stages text buffer

abbrev pub fix_stages : List ℕ → List ℕ → List Stage
fix_stages text buffer = size_stages text ++ fixing_stages text buffer

abbrev pub draft_stages : List ℕ → List ℕ → List ℕ → List ℕ → List Stage
draft_stages contract table list buffer = list_stages_by name_rule list ++ drafting_stages contract table list buffer

-- text and list first, then the blocks
abbrev pub compare_stages : List ℕ → List ℕ → List ℕ → List Stage
compare_stages text list blocks = check_stages text list ++ block_stages list blocks

abbrev pub count_stages : List ℕ → List ℕ → List ℕ → List Stage
count_stages text list entries = check_stages text list ++ entries_stages list entries

-- "loads once, then"
abbrev pub run_all_stages : List ℕ → List ℕ → List ℕ → List ℕ → List Stage
run_all_stages list blocks entries answers = load_stages list blocks ++ table_stages list entries answers

pub record TableHolds : Type 0 where
  pub read : (text : List ℕ) → ByTable (read_answer text) (read_stages text)
  pub check : (text list : List ℕ) → ByTable (check_answer text list) (check_stages text list)
  pub judge : (text list entry : List ℕ) → ByTable (judge_answer text list entry) (judge_stages text list entry)
  pub translate : (text list buffer : List ℕ) → ByTable (translate_answer text list buffer) (translate_stages text list buffer)
  pub load : (list blocks : List ℕ) → ByTable (load_answer list blocks) (load_stages list blocks)
  pub run : (list blocks entry : List ℕ) → ByTable (run_answer list blocks entry) (run_stages list blocks entry)
  pub print : (text buffer : List ℕ) → ByTable (print_answer text buffer) (print_stages text buffer)
  pub summarize : (text list : List ℕ) → ByTable (summary_answer text list) (check_stages text list)
  pub fix : (text buffer : List ℕ) → ByTable (fix_answer text buffer) (fix_stages text buffer)
  pub draft : (contract table list buffer : List ℕ)
      → ByTable (draft_answer contract table list buffer) (draft_stages contract table list buffer)
  pub compare : (text list blocks : List ℕ) → ByTable (compare_answer text list blocks) (compare_stages text list blocks)
  pub count : (text list entries : List ℕ) → ByTable (count_answer text list entries) (count_stages text list entries)
  pub run_all : (list blocks entries answers : List ℕ)
      → ByTable (run_all_answer list blocks entries answers) (run_all_stages list blocks entries answers)

-- and a text that passes 5 to 7 and 22 is cut into its tokens
abbrev pub TokensAreCut : Type 0
TokensAreCut = (text : List ℕ) (ts : List Token) → (tokens text ≡ ok ts) ↔ Cuts text ts
