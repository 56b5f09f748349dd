-- 01, "Refusal numbers", the table row by row: what each number is given for, and the offset that it stands at.
use Rattle.std.specs.Prelude.{ℕ, suc, ◌+◌, ◌*◌, ◌%◌, ◌^◌, ◌≤◌, ◌<◌, ◌≡◌, ◌≢◌, false, List, [], ◌∷◌, ◌++◌, length, take, drop}
use Rattle.std.proofs.Math.Option.{Option, none, some}
use Rattle.std.proofs.Math.ListN.{get_elem?}
use Rattle.paper.specs.Answers.{ok}
use Rattle.paper.specs.Numbers.{byte_at}
use Rattle.paper.specs.Tokens.{bytes, Prefix, Join, Comparison, Tok, Token, Scan, blank, token, octal_numeral, no_token, too_large, Scanner, scan, most_tokens, most_text}
use Rattle.paper.specs.Keys.{Key, record_size, most_keys, records_in, record_at, name_of, RecordRule, find}
use Rattle.paper.specs.Entry.{head_size, match_size, match_at, match_ok, priority_of}
use Rattle.paper.specs.Grammar.{Tree, key, field, attribute, prefixed, joined, compared, place_of, most_levels}
use Rattle.paper.specs.Sentences.{Stops, place_from}
use Rattle.paper.specs.Types.{Ty, bool, and_then, field_named, field_type, prefix_type, join_type, comparison_type, keeps_bits, type_of}
use Rattle.paper.specs.Code.{Skip, Instruction, skip, act, ends, type_action, action_of}
use Rattle.paper.specs.Blocks.{block_size, most_blocks, blocks_needed, blocks_in, block_ok}
use Rattle.paper.specs.Loading.{instruction_at, program}
use Rattle.paper.specs.Translating.{code_of}
use Rattle.paper.specs.BlocksRoundTrip.{All}
use Rattle.paper.specs.Calls.{Restriction}
use Rattle.paper.specs.Sized.{levels, count}
use Rattle.paper.specs.Pact.{most_indices, Comparator, Conjunction, Clause, conjoins, wrong, opcode_of, comparator_byte, conjunction_byte, contract_bytes, AllIndexed}
use Rattle.paper.specs.Contract.{Front, closed_all, index_fits}
use Rattle.paper.specs.LoadedBlocksRun.{types_through}
use Rattle.paper.specs.Counting.{entry_size, whole_in, cut_in, most_entries}

-- a number, and an offset in the input of its stage
abbrev pub Faults : Type 1
Faults = ℕ → ℕ → Type 0

-- 1: "text over 4,096 bytes"; text 4096
pub data TextSize (text : List ℕ) : ℕ → ℕ → Type 0 where
  text_over : most_text < length text → TextSize text 1 most_text

-- 2: "key list length not a multiple of 80, or over 2,560"; list, its length
pub data ListSize (list : List ℕ) : ℕ → ℕ → Type 0 where
  list_uneven : length list % record_size ≢ 0 → ListSize list 2 (length list)
  list_over : most_keys * record_size < length list → ListSize list 2 (length list)

-- 3: "a key record breaks its layout"; record's first byte
-- 4: "a name repeats an earlier one"; later record's first byte
-- A list is read by a rule of its records: in every call of 01 that of their layout
pub data ListRecords (rule : RecordRule) (list : List ℕ) : ℕ → ℕ → Type 0 where
  record_broken : (k : ℕ) → k < records_in list → rule k (record_at list k) ≡ false → ListRecords rule list 3 (k * record_size)
  name_repeated : (j k : ℕ) → j < k → k < records_in list → name_of (record_at list j) ≡ name_of (record_at list k)
      → ListRecords rule list 4 (k * record_size)

-- what stands at an offset that no token before it covers, by a scanner
abbrev pub look_at : Scanner → List ℕ → ℕ → Scan
look_at look text at = look (byte_at text at) (drop (suc at) text)

-- the bytes before an offset are blanks and these tokens, each "the longest possible from the left"
pub data CutBy (look : Scanner) (text : List ℕ) : ℕ → List Token → Type 0 where
  at_start : CutBy look text 0 []
  a_blank : {at : ℕ} {ts : List Token} (n : ℕ) → CutBy look text at ts → at < length text → look_at look text at ≡ blank n
      → CutBy look text (suc at + n) ts
  a_token : {at : ℕ} {ts : List Token} (k : Tok) (n : ℕ) → CutBy look text at ts → at < length text → look_at look text at ≡ token k n
      → CutBy look text (suc at + n) (ts ++ (record { at = at; tok = k } ∷ []))

-- up to the end, into at most 1,024
abbrev pub CutsBy : Scanner → List ℕ → List Token → Type 0
CutsBy look text ts = (end : ℕ) × CutBy look text end ts × (length text ≤ end) × (length ts ≤ most_tokens)

-- 5: "bytes that form no token"; text, first such byte
-- 6: "a numeral above 2^128 − 1"; its first byte
-- 7: "a 1,025th token"; its first byte
-- 22: "A well-formed octal numeral"; "at its first byte .., whatever its size (never 6)"
pub data TokenFaults (look : Scanner) (text : List ℕ) : ℕ → ℕ → Type 0 where
  no_token_lem : {at : ℕ} {ts : List Token} → CutBy look text at ts → at < length text → look_at look text at ≡ no_token
      → TokenFaults look text 5 at
  numeral_large : {at : ℕ} {ts : List Token} → CutBy look text at ts → at < length text → look_at look text at ≡ too_large
      → TokenFaults look text 6 at
  one_more_token : {at : ℕ} {ts : List Token} (k : Tok) (n : ℕ) → CutBy look text at ts → length ts ≡ most_tokens → at < length text
      → look_at look text at ≡ token k n → TokenFaults look text 7 at
  one_more_octal : {at : ℕ} {ts : List Token} (v n : ℕ) → CutBy look text at ts → length ts ≡ most_tokens → at < length text
      → look_at look text at ≡ octal_numeral v n → TokenFaults look text 7 at
  octal_numeral_lem : {at : ℕ} {ts : List Token} (v n : ℕ) → CutBy look text at ts → at < length text
      → look_at look text at ≡ octal_numeral v n → TokenFaults look text 22 at

-- by the rules that hold

abbrev pub scan_at : List ℕ → ℕ → Scan
scan_at text at = look_at scan text at

abbrev pub Cut : List ℕ → ℕ → List Token → Type 0
Cut text at ts = CutBy scan text at ts

abbrev pub Cuts : List ℕ → List Token → Type 0
Cuts text ts = CutsBy scan text ts

abbrev pub TextTokens : List ℕ → Faults
TextTokens text = TokenFaults scan text

-- 8, 9, 10: those of Sentences; the token, or the text's length
abbrev pub TextGrammar : ℕ → List Token → Faults
TextGrammar size ts n at = (us : List Token) × Stops ts us n × (at ≡ place_from size us)

-- 11: "unknown key"; its token
-- 12: "unknown field for that kind, or unknown attribute"; the field or attribute name
-- 13: "operator with wrong operand types"; operator. "An operator is judged only when its operands have types."
-- 23: a number that loses bits, "at the operand's place, .. once both operands have types that suit the operator"
pub data TreeTypes (ks : List Key) : Tree → ℕ → ℕ → Type 0 where
  key_unknown : {w : List ℕ} (at : ℕ) → find ks w ≡ none → TreeTypes ks (key at w) 11 at
  key_of_field_unknown : {w f : List ℕ} (at to : ℕ) → find ks w ≡ none → TreeTypes ks (field at w to f) 11 at
  field_unknown : {w f : List ℕ} (at to k : ℕ) → find ks w ≡ some k → and_then (field_named f) (λ g. field_type ks g k) ≡ none
      → TreeTypes ks (field at w to f) 12 to
  attribute_unknown : {f : List ℕ} (at to : ℕ) → f ≢ bytes "priority" → TreeTypes ks (attribute at to f) 12 to
  prefix_wrong : {t : Tree} (at : ℕ) (o : Prefix) (a : Ty) → type_of ks t ≡ ok a → prefix_type o a ≡ none
      → TreeTypes ks (prefixed at o t) 13 at
  join_wrong : {l r : Tree} (at : ℕ) (o : Join) (a b : Ty) → type_of ks l ≡ ok a → type_of ks r ≡ ok b → join_type a b ≡ none
      → TreeTypes ks (joined at o l r) 13 at
  comparison_wrong : {l r : Tree} (at : ℕ) (c : Comparison) (a b : Ty) → type_of ks l ≡ ok a → type_of ks r ≡ ok b
      → comparison_type c a b ≡ none → TreeTypes ks (compared at c l r) 13 at
  left_loses_bits : {l r : Tree} (at : ℕ) (c : Comparison) (a b : Ty) → type_of ks l ≡ ok a → type_of ks r ≡ ok b
      → comparison_type c a b ≡ some bool → keeps_bits l b ≡ false → TreeTypes ks (compared at c l r) 23 (place_of l)
  right_loses_bits : {l r : Tree} (at : ℕ) (c : Comparison) (a b : Ty) → type_of ks l ≡ ok a → type_of ks r ≡ ok b
      → comparison_type c a b ≡ some bool → keeps_bits r a ≡ false → TreeTypes ks (compared at c l r) 23 (place_of r)
  in_operand : {t : Tree} {n to : ℕ} (at : ℕ) (o : Prefix) → TreeTypes ks t n to → TreeTypes ks (prefixed at o t) n to
  join_left : {l r : Tree} {n to : ℕ} (at : ℕ) (o : Join) → TreeTypes ks l n to → TreeTypes ks (joined at o l r) n to
  join_right : {l r : Tree} {n to : ℕ} (at : ℕ) (o : Join) → TreeTypes ks r n to → TreeTypes ks (joined at o l r) n to
  comparison_left : {l r : Tree} {n to : ℕ} (at : ℕ) (c : Comparison) → TreeTypes ks l n to → TreeTypes ks (compared at c l r) n to
  comparison_right : {l r : Tree} {n to : ℕ} (at : ℕ) (c : Comparison) → TreeTypes ks r n to → TreeTypes ks (compared at c l r) n to

-- 14: "whole text not bool"; root's place
pub data RootType (ks : List Key) (t : Tree) : ℕ → ℕ → Type 0 where
  not_bool : (a : Ty) → type_of ks t ≡ ok a → a ≢ bool → RootType ks t 14 (place_of t)

-- 15: "lent buffer below the bytes needed"; buffer, its length
pub data BufferSize (r : Restriction) (buffer : List ℕ) : ℕ → ℕ → Type 0 where
  buffer_short : length buffer < block_size * blocks_needed (length (code_of r.keys r.root))
      → BufferSize r buffer 15 (length buffer)

-- 16: "blocks: length 0, no multiple of 512, or over 82 blocks", 123 since 02 g; blocks, length
pub data BlocksSize (blocks : List ℕ) : ℕ → ℕ → Type 0 where
  no_blocks : length blocks ≡ 0 → BlocksSize blocks 16 (length blocks)
  blocks_uneven : length blocks % block_size ≢ 0 → BlocksSize blocks 16 (length blocks)
  blocks_over : most_blocks * block_size < length blocks → BlocksSize blocks 16 (length blocks)

-- 17: "a block breaks its layout"; its first byte
pub data BlocksLayout (keys : ℕ) (blocks : List ℕ) : ℕ → ℕ → Type 0 where
  block_broken : (k : ℕ) → k < blocks_in blocks → block_ok keys blocks k ≡ false → BlocksLayout keys blocks 17 (k * block_size)

-- 18: "an instruction fails the load check"; its first byte, or length at the end. The types are those that are held where nothing is
-- passed over. An instruction does not act on what the ones before it leave; or a skip finds other types at its landing than it stands on,
-- which is told only where all before the landing act ("A landing past an instruction that fails by itself is not compared"); or all act,
-- and what is held at the end is not one bool
pub data BlocksCode (ks : List Key) (blocks : List ℕ) : ℕ → ℕ → Type 0 where
  instruction_fails : (front : List (Option Instruction)) (i : Option Instruction) (rest : List (Option Instruction)) (held : List Ty)
      → program blocks ≡ front ++ (i ∷ rest) → types_through ks front ≡ ends held → act (action_of (type_action ks) i) held ≡ none
      → BlocksCode ks blocks 18 (instruction_at (length front))
  skip_misfits : (front : List (Option Instruction)) (s : Skip) (rest : List (Option Instruction)) (held there : List Ty)
      → program blocks ≡ front ++ (some (skip s) ∷ rest) → types_through ks front ≡ ends held
      → types_through ks (front ++ (some (skip s) ∷ take s.over rest)) ≡ ends there → held ≢ there
      → BlocksCode ks blocks 18 (instruction_at (length front))
  end_not_bool : (held : List Ty) → types_through ks (program blocks) ≡ ends held → held ≢ bool ∷ []
      → BlocksCode ks blocks 18 (length blocks)

-- 19: "entry length wrong"; entry, length
pub data EntrySize (ks : List Key) (entry : List ℕ) : ℕ → ℕ → Type 0 where
  entry_wrong : length entry ≢ head_size + match_size * length ks → EntrySize ks entry 19 (length entry)

-- 20: "priority or a key's entry record breaks its rule"; first byte of it
pub data EntryRules (ks : List Key) (entry : List ℕ) : ℕ → ℕ → Type 0 where
  priority_broken : 2 ^ 31 ≤ priority_of entry → EntryRules ks entry 20 0
  match_broken : (k : ℕ) (x : Key) → get_elem? ks k ≡ some x → match_ok x (match_at entry k) ≡ false
      → EntryRules ks entry 20 (head_size + k * match_size)

-- 25: "Beyond 1,000,000 whole entries"; the first byte of the next one
pub data EntriesMany (ks : List Key) (entries : List ℕ) : ℕ → ℕ → Type 0 where
  entries_over : most_entries < whole_in ks entries → EntriesMany ks entries 25 (most_entries * entry_size ks)

-- 19, of many: "a wrong length", which is no multiple of an entry's; entries, their length
pub data EntriesSize (ks : List Key) (entries : List ℕ) : ℕ → ℕ → Type 0 where
  entries_cut : cut_in ks entries ≢ 0 → EntriesSize ks entries 19 (length entries)

-- 15, of their answers: "too few answer bytes"; buffer, its length
pub data AnswersSize (ks : List Key) (entries answers : List ℕ) : ℕ → ℕ → Type 0 where
  answers_few : length answers < whole_in ks entries → AnswersSize ks entries answers 15 (length answers)

-- 24: "a table over 16 numbers"; "at table 16"
pub data TableSize (table : List ℕ) : ℕ → ℕ → Type 0 where
  table_over : most_indices < length table → TableSize table 24 most_indices

-- the bytes of what stands before a byte of a contract, and that it may stand there: the last clause is the one that may go on, a
-- conjunction waits behind it alone, and every index has a name or a user number

abbrev pub one_byte : {A : Type 0} → (A → ℕ) → Option A → List ℕ
one_byte f none = []
one_byte f (some a) = f a ∷ []

abbrev pub front_bytes : Front → List ℕ
front_bytes f =
    contract_bytes (closed_all f.closed f.clause) ++ one_byte conjunction_byte f.conjunction ++ one_byte comparator_byte f.comparator

pub record Stands (names users : ℕ) (f : Front) : Type 0 where
  pub indexed : All (AllIndexed names users) (closed_all f.closed f.clause)
  pub first : f.clause ≡ none → f.closed ≡ []
  pub follows : (j : Conjunction) → f.conjunction ≡ some j → (c : Clause) × (f.clause ≡ some c)

-- 24: "IN, a nonzero reserved bit, an unused operation number, an index without a user number or name, a conjunction with no assertion
-- directly before it, and a cut contract"; "at the earliest contract byte concerned, or at the length if cut"
pub data ContractFaults (names users : ℕ) (contract : List ℕ) : ℕ → ℕ → Type 0 where
  opcode_wrong : (f : Front) (b : ℕ) (rest : List ℕ) → Stands names users f → f.comparator ≡ none
      → contract ≡ front_bytes f ++ (b ∷ rest) → opcode_of b ≡ wrong → ContractFaults names users contract 24 (length (front_bytes f))
  nothing_to_join : (f : Front) (b : ℕ) (rest : List ℕ) (k : Conjunction) → Stands names users f → f.comparator ≡ none
      → contract ≡ front_bytes f ++ (b ∷ rest) → opcode_of b ≡ conjoins k → f.clause ≡ none
      → ContractFaults names users contract 24 (length (front_bytes f))
  joined_twice : (f : Front) (b : ℕ) (rest : List ℕ) (j k : Conjunction) → Stands names users f → f.comparator ≡ none
      → contract ≡ front_bytes f ++ (b ∷ rest) → opcode_of b ≡ conjoins k → f.conjunction ≡ some j
      → ContractFaults names users contract 24 (length (front_bytes f))
  index_unknown : (f : Front) (b : ℕ) (rest : List ℕ) (o : Comparator) → Stands names users f → f.comparator ≡ some o
      → contract ≡ front_bytes f ++ (b ∷ rest) → index_fits names users o b ≡ false
      → ContractFaults names users contract 24 (length (front_bytes f))
  cut_before_index : (f : Front) (o : Comparator) → Stands names users f → f.comparator ≡ some o → contract ≡ front_bytes f
      → ContractFaults names users contract 24 (length contract)
  cut_before_assertion : (f : Front) (j : Conjunction) → Stands names users f → f.conjunction ≡ some j → contract ≡ front_bytes f
      → ContractFaults names users contract 24 (length contract)

-- 21: "A text over a limit of 01", by its tokens or its levels; buffer, its length
pub data TextLimits (t : Tree) (buffer : List ℕ) : ℕ → ℕ → Type 0 where
  tokens_many : most_tokens < count t → TextLimits t buffer 21 (length buffer)
  levels_many : most_levels < levels t → TextLimits t buffer 21 (length buffer)

-- 21: "A print over 4,096 bytes, or over the lent buffer"; buffer, its length. Of whatever bytes are to be lent
pub data LendingSize (new buffer : List ℕ) : ℕ → ℕ → Type 0 where
  over_limit : most_text < length new → LendingSize new buffer 21 (length buffer)
  over_buffer : length buffer < length new → LendingSize new buffer 21 (length buffer)
