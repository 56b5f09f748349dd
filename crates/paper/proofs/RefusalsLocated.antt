-- Every refusal has a number of the table, and lies in an input that the call was lent, or at its length.
use Prim.Native.Nat.{ℕ, suc, ◌+◌, ◌*◌, ◌≤◌, ◌<◌}
use native.Mathlib.Nat.{le-div_iff_mul-le}
use native.Mathlib.Decide.{ℕ_discrete}
use native.Mathlib.Omega.{arith}
use mathlib.Core.Path.{◌≡◌, sym, ap, ◌∙◌}
use mathlib.Core.Logic.{inl, inr}
use mathlib.Core.Option.{Option, some}
use mathlib.Core.List.{List, [], ◌∷◌, ◌++◌, Memᴰ}
use lib.ListN.{length, length-append}
use Rattle.paper.specs.Answers.{Input, in_text, in_list, in_entry, in_blocks, in_buffer, in_contract, in_table, Answer, ok, in_turn}
use Rattle.paper.specs.Tokens.{Token, Scanner, scan, tokens}
use Rattle.paper.specs.Keys.{Key, RecordRule, layout_rule, keys}
use Rattle.paper.specs.Entry.{head_size, match_size}
use Rattle.paper.specs.Grammar.{Tree, parsed}
use Rattle.paper.specs.Sentences.{Number, text_ends, no_sentence, too_deep, bad_string}
use Rattle.paper.specs.Places.{Everywhere}
use Rattle.paper.specs.Code.{Instruction, skip}
use Rattle.paper.specs.Blocks.{in_block, blocks_in, total_of, block_test}
use Rattle.paper.specs.Loading.{instruction_at, program}
use Rattle.paper.specs.Print.{print}
use Rattle.paper.specs.Calls.{tree, restriction}
use Rattle.paper.specs.Fixing.{old_scan, fixed}
use Rattle.paper.specs.Contract.{Front}
use Rattle.paper.specs.Drafting.{names_of, drafted}
use Rattle.paper.specs.Counting.{whole_in, most_entries}
use Rattle.paper.specs.Faults.{Faults, TextSize, text_over, ListSize, list_uneven, list_over, ListRecords, record_broken, name_repeated, TokenFaults, no_token_lem, numeral_large, one_more_token, one_more_octal, octal_numeral_lem, TextGrammar, TreeTypes, key_unknown, key_of_field_unknown, field_unknown, attribute_unknown, prefix_wrong, join_wrong, comparison_wrong, left_loses_bits, right_loses_bits, in_operand, join_left, join_right, comparison_left, comparison_right, RootType, not_bool, BufferSize, buffer_short, BlocksSize, no_blocks, blocks_uneven, blocks_over, BlocksLayout, block_broken, BlocksCode, instruction_fails, skip_misfits, end_not_bool, EntrySize, entry_wrong, EntryRules, priority_broken, match_broken, EntriesMany, entries_over, EntriesSize, entries_cut, AnswersSize, answers_few, LendingSize, over_limit, over_buffer, TableSize, table_over, front_bytes, ContractFaults, opcode_wrong, nothing_to_join, joined_twice, index_unknown, cut_before_index, cut_before_assertion, TextLimits, tokens_many, levels_many}
use Rattle.paper.specs.Table.{last_number, Free, Stage, Given, Decided, Clear, size_stages, list_stages_by, list_stages, tree_stages, type_stages, buffer_stages, block_stages, entry_stages, entries_stages, table_stages, printing_stages, fixing_stages, drafting_stages, check_stages}
use Rattle.paper.specs.Demands.{Lent, lent}
use Rattle.paper.proofs.Basics.{some_below}
use Rattle.paper.proofs.Stages.{bind_ok}
use Rattle.paper.proofs.Offsets.{places_in_text, place_in_text}
use Rattle.paper.proofs.LoadedBlocksRun.{program_length}
use Rattle.paper.proofs.LayoutPassed.{each_block, counts_within}
use Rattle.paper.proofs.StagesInOrder.{free_passes}
use Rattle.paper.proofs.InOrder.{root_place}
use Rattle.paper.proofs.BlockFaults.{blocks_layout_tells}
use Rattle.paper.proofs.CodeFaults.{inside_blocks}
use Rattle.paper.proofs.TypeFaults.{placed}
use Rattle.paper.proofs.EntriesLaid.{some_size}

-- a number and an offset in bytes
pub record Bounded (bytes : List ℕ) (n at : ℕ) : Type 0 where
  pub low : 1 ≤ n
  pub high : n ≤ last_number
  pub inside : at ≤ length bytes

pub record Located (inputs : List Lent) (s : Stage) : Type 0 where
  pub bytes : List ℕ
  pub among : Memᴰ (lent s.input bytes) inputs
  pub bounded : (n at : ℕ) → s.faults n at → Bounded bytes n at

-- each stage, where those before it have no fault
abbrev pub AllLocated : List Lent → List Stage → Type 0
AllLocated inputs [] = Unit {0}
AllLocated inputs (s ∷ ss) = Located inputs s × (Free s.faults → AllLocated inputs ss)

pub located_then : (inputs : List Lent) (ss ts : List Stage) → AllLocated inputs ss → (Clear ss → AllLocated inputs ts)
    → AllLocated inputs (ss ++ ts)
located_then inputs [] ts h k = k tt
located_then inputs (s ∷ ss) ts h k = (h.0, λ free. located_then inputs ss ts (h.1 free) (λ clear. k (free, clear)))

pub record LiesIn (inputs : List Lent) (n : ℕ) (i : Input) (at : ℕ) : Type 0 where
  pub bytes : List ℕ
  pub among : Memᴰ (lent i bytes) inputs
  pub bounded : Bounded bytes n at

pub decided_lies : (inputs : List Lent) (ss : List Stage) (n : ℕ) (i : Input) (at : ℕ) → AllLocated inputs ss → Decided ss n i at
    → LiesIn inputs n i at
decided_lies inputs [] n i at h d = elim d [ ]
decided_lies inputs (s ∷ ss) n i at h (inl (e, w)) =
    record { bytes = h.0.bytes; among = rw e h.0.among; bounded = h.0.bounded n at w.fault }
decided_lies inputs (s ∷ ss) n i at h (inr (free, d)) = decided_lies inputs ss n i at (h.1 free) d

-- stage by stage

bound : {bytes : List ℕ} {n at : ℕ} → 1 ≤ n → n ≤ last_number → at ≤ length bytes → Bounded bytes n at
bound a b c = record { low = a; high = b; inside = c }

text_bounded : (text : List ℕ) (n at : ℕ) → TextSize text n at → Bounded text n at
text_bounded text n at (text_over l) = bound (omega arith) (omega arith) (omega arith)

list_size_bounded : (list : List ℕ) (n at : ℕ) → ListSize list n at → Bounded list n at
list_size_bounded list n at (list_uneven d) = bound (omega arith) (omega arith) (omega arith)
list_size_bounded list n at (list_over l) = bound (omega arith) (omega arith) (omega arith)

records_bounded : (rule : RecordRule) (list : List ℕ) (n at : ℕ) → ListRecords rule list n at → Bounded list n at
records_bounded rule list n at (record_broken k l h) = bound (omega arith) (omega arith) (omega arith)
records_bounded rule list n at (name_repeated j k l m h) = bound (omega arith) (omega arith) (omega arith)

tokens_bounded : (look : Scanner) (text : List ℕ) (n at : ℕ) → TokenFaults look text n at → Bounded text n at
tokens_bounded look text n at (no_token_lem cut inside e) = bound (omega arith) (omega arith) (omega arith)
tokens_bounded look text n at (numeral_large cut inside e) = bound (omega arith) (omega arith) (omega arith)
tokens_bounded look text n at (one_more_token k m cut full inside e) = bound (omega arith) (omega arith) (omega arith)
tokens_bounded look text n at (one_more_octal v m cut full inside e) = bound (omega arith) (omega arith) (omega arith)
tokens_bounded look text n at (octal_numeral_lem v m cut inside e) = bound (omega arith) (omega arith) (omega arith)

number_bounded : (ts taken us : List Token) (n : ℕ) → Number ts taken us n → (1 ≤ n) × (n ≤ last_number)
number_bounded ts taken us n (text_ends h) = (omega arith, omega arith)
number_bounded ts taken us n (no_sentence h) = (omega arith, omega arith)
number_bounded ts taken us n (too_deep o s h) = (omega arith, omega arith)
number_bounded ts taken us n (bad_string q b h) = (omega arith, omega arith)

grammar_bounded : (text : List ℕ) (n at : ℕ) → Given (tokens text) (TextGrammar (length text)) n at → Bounded text n at
grammar_bounded text n at (ts, cut, (us, stops, place)) =
    let (low, high) = number_bounded ts stops.taken us n stops.number in
    bound low high (omega (arith, place, place_in_text text ts stops.taken us cut stops.split))

all_inside : (text : List ℕ) (t : Tree) → tree text ≡ ok t → Everywhere (λ at. at < length text) t
unfolding tree
all_inside text t h =
    let (ts, cut, read) = bind_ok (tokens text) (parsed (length text)) t h in
    places_in_text text ts t cut read

type_number : (ks : List Key) (t : Tree) (n at : ℕ) → TreeTypes ks t n at → (1 ≤ n) × (n ≤ last_number)
type_number ks t n at (key_unknown to e) = (omega arith, omega arith)
type_number ks t n at (key_of_field_unknown to past e) = (omega arith, omega arith)
type_number ks t n at (field_unknown to past k e h) = (omega arith, omega arith)
type_number ks t n at (attribute_unknown to past d) = (omega arith, omega arith)
type_number ks t n at (prefix_wrong to o a e h) = (omega arith, omega arith)
type_number ks t n at (join_wrong to o a b d e h) = (omega arith, omega arith)
type_number ks t n at (comparison_wrong to c a b d e h) = (omega arith, omega arith)
type_number ks t n at (left_loses_bits to c a b d e h k) = (omega arith, omega arith)
type_number ks t n at (right_loses_bits to c a b d e h k) = (omega arith, omega arith)
type_number ks t n at (in_operand {t = s} to o h) = type_number ks s n at h
type_number ks t n at (join_left {l = l} to o h) = type_number ks l n at h
type_number ks t n at (join_right {r = r} to o h) = type_number ks r n at h
type_number ks t n at (comparison_left {l = l} to c h) = type_number ks l n at h
type_number ks t n at (comparison_right {r = r} to c h) = type_number ks r n at h

types_bounded : (text list : List ℕ) (n at : ℕ) → Given (keys list) (λ ks. Given (tree text) (TreeTypes ks)) n at → Bounded text n at
types_bounded text list n at (ks, listed, (t, read, h)) =
    let (low, high) = type_number ks t n at h in
    let inside = placed ks (λ at. at < length text) t n at h (all_inside text t read) in
    bound low high (omega arith)

root_bounded : (text list : List ℕ) (n at : ℕ) → Given (keys list) (λ ks. Given (tree text) (RootType ks)) n at → Bounded text n at
root_bounded text list n at (ks, listed, (t, read, h)) = go n at h
  where
    go : (n at : ℕ) → RootType ks t n at → Bounded text n at
    go n at (not_bool a e d) =
        let inside = root_place (λ at. at < length text) t (all_inside text t read) in
        bound (omega arith) (omega arith) (omega arith)

buffer_bounded : (text list buffer : List ℕ) (n at : ℕ) → Given (restriction text list) (λ r. BufferSize r buffer) n at
    → Bounded buffer n at
buffer_bounded text list buffer n at (r, passed, h) = go n at h
  where
    go : (n at : ℕ) → BufferSize r buffer n at → Bounded buffer n at
    go n at (buffer_short l) = bound (omega arith) (omega arith) (omega arith)

blocks_size_bounded : (blocks : List ℕ) (n at : ℕ) → BlocksSize blocks n at → Bounded blocks n at
blocks_size_bounded blocks n at (no_blocks e) = bound (omega arith) (omega arith) (omega arith)
blocks_size_bounded blocks n at (blocks_uneven d) = bound (omega arith) (omega arith) (omega arith)
blocks_size_bounded blocks n at (blocks_over l) = bound (omega arith) (omega arith) (omega arith)

layout_bounded : (list blocks : List ℕ) (n at : ℕ) → Given (keys list) (λ ks. BlocksLayout (length ks) blocks) n at → Bounded blocks n at
layout_bounded list blocks n at (ks, listed, h) = go n at h
  where
    go : (n at : ℕ) → BlocksLayout (length ks) blocks n at → Bounded blocks n at
    go n at (block_broken k l e) = bound (omega arith) (omega arith) (omega arith)

-- instructions stand in blocks that are laid out well
code_bounded : (list blocks : List ℕ) → Free (Given (keys list) (λ ks. BlocksLayout (length ks) blocks)) → (n at : ℕ)
    → Given (keys list) (λ ks. BlocksCode ks blocks) n at → Bounded blocks n at
code_bounded list blocks free n at (ks, listed, h) = go n at h
  where
    few : total_of blocks ≤ in_block * blocks_in blocks
    few =
        let (_, passes) = free_passes in_blocks (BlocksLayout (length ks) blocks) (in_turn (block_test (length ks) blocks) 0 (blocks_in blocks))
        (blocks_layout_tells (length ks) blocks) (λ m to f. free m to (ks, listed, f))
        in
        counts_within (length ks) blocks (each_block (length ks) blocks passes)

    here : (front : List (Option Instruction)) (i : Option Instruction) (rest : List (Option Instruction)) → program blocks ≡ front ++ (i ∷ rest)
        → Bounded blocks 18 (instruction_at (length front))
    here front i rest split =
        let size : length front + suc (length rest) ≡ total_of blocks =
        sym (length-append front (i ∷ rest)) ∙ ap length (sym split) ∙ program_length blocks 0 (total_of blocks)
        in
        bound (omega arith) (omega arith) (omega (arith, inside_blocks blocks (length front) few (omega arith)))

    go : (n at : ℕ) → BlocksCode ks blocks n at → Bounded blocks n at
    go n at (instruction_fails front i rest held split upto stops) = here front i rest split
    go n at (skip_misfits front s rest held there split upto lands differs) = here front (some (skip s)) rest split
    go n at (end_not_bool held e d) = bound (omega arith) (omega arith) (omega arith)

entry_size_bounded : (list entry : List ℕ) (n at : ℕ) → Given (keys list) (λ ks. EntrySize ks entry) n at → Bounded entry n at
entry_size_bounded list entry n at (ks, listed, h) = go n at h
  where
    go : (n at : ℕ) → EntrySize ks entry n at → Bounded entry n at
    go n at (entry_wrong d) = bound (omega arith) (omega arith) (omega arith)

rules_bounded : (list entry : List ℕ) → Free (Given (keys list) (λ ks. EntrySize ks entry)) → (n at : ℕ)
    → Given (keys list) (λ ks. EntryRules ks entry) n at → Bounded entry n at
rules_bounded list entry free n at (ks, listed, h) = go n at h
  where
    right : length entry ≡ head_size + match_size * length ks
    right = by (ℕ_discrete (length entry) (head_size + match_size * length ks))
      where
        by : Dec (length entry ≡ head_size + match_size * length ks) → length entry ≡ head_size + match_size * length ks
        by (yes e) = e
        by (no d) = absurd (free 19 (length entry) (ks, listed, entry_wrong d))

    go : (n at : ℕ) → EntryRules ks entry n at → Bounded entry n at
    go n at (priority_broken l) = bound (omega arith) (omega arith) (omega arith)
    go n at (match_broken k x e f) = bound (omega arith) (omega arith) (omega (arith, right, some_below ks k x e))

-- so many whole ones lie in them
entries_bounded : (entries : List ℕ) (ks : List Key) (n at : ℕ) → EntriesMany ks entries n at → Bounded entries n at
entries_bounded entries ks n at (entries_over l) =
    let most : most_entries ≤ whole_in ks entries = omega (arith, l) in
    bound (omega arith) (omega arith) ((le-div_iff_mul-le (some_size ks)).0 most)

whole_bounded : (entries : List ℕ) (ks : List Key) (n at : ℕ) → EntriesSize ks entries n at → Bounded entries n at
whole_bounded entries ks n at (entries_cut d) = bound (omega arith) (omega arith) (omega arith)

answers_bounded : (entries answers : List ℕ) (ks : List Key) (n at : ℕ) → AnswersSize ks entries answers n at → Bounded answers n at
answers_bounded entries answers ks n at (answers_few l) = bound (omega arith) (omega arith) (omega arith)

lending_bounded : (new buffer : List ℕ) (n at : ℕ) → LendingSize new buffer n at → Bounded buffer n at
lending_bounded new buffer n at (over_limit l) = bound (omega arith) (omega arith) (omega arith)
lending_bounded new buffer n at (over_buffer l) = bound (omega arith) (omega arith) (omega arith)

table_bounded : (table : List ℕ) (n at : ℕ) → TableSize table n at → Bounded table n at
table_bounded table n at (table_over l) = bound (omega arith) (omega arith) (omega arith)

contract_bounded : (names users : ℕ) (contract : List ℕ) (n at : ℕ) → ContractFaults names users contract n at → Bounded contract n at
contract_bounded names users contract n at h = go n at h
  where
    -- what stands before a byte of the contract
    front : (f : Front) (s : List ℕ) → contract ≡ front_bytes f ++ s → Bounded contract 24 (length (front_bytes f))
    front f s split = bound (omega arith) (omega arith) (omega (arith, ap length split, length-append (front_bytes f) s))

    go : (n at : ℕ) → ContractFaults names users contract n at → Bounded contract n at
    go n at (opcode_wrong f b rest stands none_waits split e) = front f (b ∷ rest) split
    go n at (nothing_to_join f b rest k stands none_waits split e first) = front f (b ∷ rest) split
    go n at (joined_twice f b rest j k stands none_waits split e again) = front f (b ∷ rest) split
    go n at (index_unknown f b rest o stands waits split e) = front f (b ∷ rest) split
    go n at (cut_before_index f o stands waits whole) = bound (omega arith) (omega arith) (omega arith)
    go n at (cut_before_assertion f j stands waits whole) = bound (omega arith) (omega arith) (omega arith)

limits_bounded : (t : Tree) (buffer : List ℕ) (n at : ℕ) → TextLimits t buffer n at → Bounded buffer n at
limits_bounded t buffer n at (tokens_many l) = bound (omega arith) (omega arith) (omega arith)
limits_bounded t buffer n at (levels_many l) = bound (omega arith) (omega arith) (omega arith)

-- faults of what an earlier stage passed on
given_bounded : {A : Type 0} (x : Answer A) (F : A → Faults) (bytes : List ℕ) → ((v : A) (n at : ℕ) → F v n at → Bounded bytes n at)
    → (n at : ℕ) → Given x F n at → Bounded bytes n at
given_bounded x F bytes bounded n at (v, there, h) = bounded v n at h

-- stages

module _ (inputs : List Lent) where
  abbrev There : Input → List ℕ → Type 0
  There i s = Memᴰ (lent i s) inputs

  pub size_located : (text : List ℕ) → There in_text text → AllLocated inputs (size_stages text)
  size_located text m = (record { bytes = text; among = m; bounded = text_bounded text }, λ _. tt)

  pub list_located_by : (rule : RecordRule) (list : List ℕ) → There in_list list → AllLocated inputs (list_stages_by rule list)
  list_located_by rule list m = (
    record { bytes = list; among = m; bounded = list_size_bounded list },
    λ _. (record { bytes = list; among = m; bounded = records_bounded rule list }, λ _. tt),
  )

  pub list_located : (list : List ℕ) → There in_list list → AllLocated inputs (list_stages list)
  list_located = list_located_by layout_rule

  pub tree_located : (text : List ℕ) → There in_text text → AllLocated inputs (tree_stages text)
  tree_located text m = (
    record { bytes = text; among = m; bounded = tokens_bounded scan text },
    λ _. (record { bytes = text; among = m; bounded = grammar_bounded text }, λ _. tt),
  )

  pub type_located : (text list : List ℕ) → There in_text text → AllLocated inputs (type_stages text list)
  type_located text list m = (
    record { bytes = text; among = m; bounded = types_bounded text list },
    λ _. (record { bytes = text; among = m; bounded = root_bounded text list }, λ _. tt),
  )

  pub check_located : (text list : List ℕ) → There in_text text → There in_list list → AllLocated inputs (check_stages text list)
  check_located text list m l =
      located_then inputs (size_stages text ++ list_stages list ++ tree_stages text) (type_stages text list)
      (located_then inputs (size_stages text ++ list_stages list) (tree_stages text)
      (located_then inputs (size_stages text) (list_stages list) (size_located text m) (λ _. list_located list l))
      (λ _. tree_located text m))
      (λ _. type_located text list m)

  pub buffer_located : (text list buffer : List ℕ) → There in_buffer buffer → AllLocated inputs (buffer_stages text list buffer)
  buffer_located text list buffer m = (record { bytes = buffer; among = m; bounded = buffer_bounded text list buffer }, λ _. tt)

  pub block_located : (list blocks : List ℕ) → There in_blocks blocks → AllLocated inputs (block_stages list blocks)
  block_located list blocks m = (
    record { bytes = blocks; among = m; bounded = blocks_size_bounded blocks },
    λ _. (
      record { bytes = blocks; among = m; bounded = layout_bounded list blocks },
      λ free. (record { bytes = blocks; among = m; bounded = code_bounded list blocks free }, λ _. tt),
    ),
  )

  pub entry_located : (list entry : List ℕ) → There in_entry entry → AllLocated inputs (entry_stages list entry)
  entry_located list entry m = (
    record { bytes = entry; among = m; bounded = entry_size_bounded list entry },
    λ free. (record { bytes = entry; among = m; bounded = rules_bounded list entry free }, λ _. tt),
  )

  pub entries_located : (list entries : List ℕ) → There in_entry entries → AllLocated inputs (entries_stages list entries)
  entries_located list entries m =
      let bounded = given_bounded (keys list) (λ ks. EntriesMany ks entries) entries (entries_bounded entries) in
      (record { bytes = entries; among = m; bounded = bounded }, λ _. tt)

  pub table_located : (list entries answers : List ℕ) → There in_entry entries → There in_buffer answers
      → AllLocated inputs (table_stages list entries answers)
  table_located list entries answers m b =
      let in-entries = given_bounded (keys list) (λ ks. EntriesSize ks entries) entries (whole_bounded entries) in
      let in-answers = given_bounded (keys list) (λ ks. AnswersSize ks entries answers) answers (answers_bounded entries answers) in (
        record { bytes = entries; among = m; bounded = in-entries },
        λ _. (record { bytes = answers; among = b; bounded = in-answers }, λ _. tt),
      )

  pub printing_located : (text buffer : List ℕ) → There in_buffer buffer → AllLocated inputs (printing_stages text buffer)
  printing_located text buffer m =
      let bounded = given_bounded (tree text) (λ t. LendingSize (print t) buffer) buffer (λ t. lending_bounded (print t) buffer) in
      (record { bytes = buffer; among = m; bounded = bounded }, λ _. tt)

  pub fixing_located : (text buffer : List ℕ) → There in_text text → There in_buffer buffer → AllLocated inputs (fixing_stages text buffer)
  fixing_located text buffer m b = (
    record { bytes = text; among = m; bounded = tokens_bounded old_scan text },
    λ _. (record { bytes = buffer; among = b; bounded = lending_bounded (fixed text) buffer }, λ _. tt),
  )

  pub drafting_located : (contract table list buffer : List ℕ) → There in_contract contract → There in_table table → There in_buffer buffer
      → AllLocated inputs (drafting_stages contract table list buffer)
  drafting_located contract table list buffer c t b =
      let in-contract = given_bounded (names_of list) (λ ks. ContractFaults (length ks) (length table) contract) contract
      (λ ks. contract_bounded (length ks) (length table) contract)
      in
      let in-limits = given_bounded (drafted contract table list) (λ t. TextLimits t buffer) buffer (λ t. limits_bounded t buffer) in
      let in_size = given_bounded (drafted contract table list) (λ t. LendingSize (print t) buffer) buffer (λ t. lending_bounded (print t) buffer) in (
        record { bytes = table; among = t; bounded = table_bounded table },
        λ _. (
          record { bytes = contract; among = c; bounded = in-contract },
          λ _. (
            record { bytes = buffer; among = b; bounded = in-limits },
            λ _. (record { bytes = buffer; among = b; bounded = in_size }, λ _. tt),
          ),
        ),
      )
