-- 01, "Blocks", the instructions: their bytes, their types and their meaning. With 02 g, operation 13.
-- "Instructions are 20 bytes: operation, detail byte, two-byte operand, 16-byte constant; unused parts zero."
use Rattle.std.specs.Prelude.{ℕ, ◌+◌, ◌-◌, ◌*◌, ◌^◌, Bool, true, false, cond, ◌&&◌, List, [], ◌∷◌, ◌++◌, length, eqb, ltb, leb, pos}
use Rattle.std.specs.Bool.{beq}
use Rattle.std.proofs.Math.Option.{Option, none, some}
use Rattle.std.proofs.Math.ListN.{get_elem?}
use Rattle.paper.specs.Numbers.{byte_at, number_at, big_endian}
use Rattle.paper.specs.Tokens.{Comparison, equal, unequal, greater, at_least, less, at_most}
use Rattle.paper.specs.Keys.{Kind, kind_no, kind_of, Key}
use Rattle.paper.specs.Entry.{Entry}
use Rattle.paper.specs.Types.{Ty, bool, int, of, when, and_then, takes, Field, value, mask, prefix_length, low, high, bare_type, field_type, not_type, negate_type, join_type, compare_type}
use Rattle.paper.specs.Meaning.{Value, truth, whole, matched, bare_value, field_value, not_value, negate_value, Connective, both, either, if_then, join_value, compare_value, convert_value}

-- 02 g, "operation 13: if the top bool equals the detail byte (0 or 1), replace it by the bool in the constant's first byte (0 or 1)
-- and pass over as many instructions as the operand says"
pub record Skip : Type 0 where
  pub on : Bool
  pub to : Bool
  pub over : ℕ

-- "Operations: 1 push bool (operand 0 or 1), 2 push int (constant), 3 push bare key (operand: index), 4 push field (operand:
-- index; detail 0 value, 1 mask, 2 prefix_length, 3 low, 4 high), 5 push priority, 6 not, 7 negate, 8 convert the top (detail: 0
-- for bit, else the kind; operand W, 1 to 128), 9 compare (detail 0 ==, 1 !=, 2 >, 3 >=, 4 <, 5 <=), 10 and, 11 or, 12 implies."
pub data Instruction : Type 0 where
  push_bool : Bool → Instruction
  push_int : ℕ → Instruction
  push_key : ℕ → Instruction
  push_field : Field → ℕ → Instruction
  push_priority : Instruction
  invert negate : Instruction
  convert : Kind → ℕ → Instruction
  compare : Comparison → Instruction
  connects : Connective → Instruction
  skip : Skip → Instruction

abbrev pub field_no : Field → ℕ
field_no value = 0
field_no mask = 1
field_no prefix_length = 2
field_no low = 3
field_no high = 4

-- of a number up to 4; a higher one is the number of none
abbrev pub field_of : ℕ → Field
field_of n =
    cond (eqb n 0) value
    (cond (eqb n 1) mask
    (cond (eqb n 2) prefix_length
    (cond (eqb n 3) low high)))

abbrev pub comparison_no : Comparison → ℕ
comparison_no equal = 0
comparison_no unequal = 1
comparison_no greater = 2
comparison_no at_least = 3
comparison_no less = 4
comparison_no at_most = 5

-- of a number up to 5; a higher one is the number of none
abbrev pub comparison_of : ℕ → Comparison
comparison_of n =
    cond (eqb n 0) equal
    (cond (eqb n 1) unequal
    (cond (eqb n 2) greater
    (cond (eqb n 3) at_least
    (cond (eqb n 4) less at_most))))

-- the parts of an instruction
pub record Parts : Type 0 where
  pub operation : ℕ
  pub detail : ℕ
  pub operand : ℕ
  pub constant : ℕ

abbrev pub bit : Bool → ℕ
bit false = 0
bit true = 1

-- the first of a constant's 16 bytes, where it is 1
abbrev pub first_byte : ℕ
first_byte = 2 ^ 120

abbrev pub parts_of : Instruction → Parts
parts_of (push_bool b) = record { operation = 1; detail = 0; operand = bit b; constant = 0 }
parts_of (push_int n) = record { operation = 2; detail = 0; operand = 0; constant = n }
parts_of (push_key k) = record { operation = 3; detail = 0; operand = k; constant = 0 }
parts_of (push_field f k) = record { operation = 4; detail = field_no f; operand = k; constant = 0 }
parts_of push_priority = record { operation = 5; detail = 0; operand = 0; constant = 0 }
parts_of invert = record { operation = 6; detail = 0; operand = 0; constant = 0 }
parts_of negate = record { operation = 7; detail = 0; operand = 0; constant = 0 }
parts_of (convert k w) = record { operation = 8; detail = kind_no k; operand = w; constant = 0 }
parts_of (compare c) = record { operation = 9; detail = comparison_no c; operand = 0; constant = 0 }
parts_of (connects both) = record { operation = 10; detail = 0; operand = 0; constant = 0 }
parts_of (connects either) = record { operation = 11; detail = 0; operand = 0; constant = 0 }
parts_of (connects if_then) = record { operation = 12; detail = 0; operand = 0; constant = 0 }
parts_of (skip s) = record { operation = 13; detail = bit s.on; operand = s.over; constant = bit s.to * first_byte }

abbrev pub instruction_size : ℕ
instruction_size = 20

abbrev pub encode : Instruction → List ℕ
encode i =
    let p = parts_of i in
    p.operation ∷ p.detail ∷ (big_endian 2 p.operand ++ big_endian 16 p.constant)

abbrev pub parts_at : List ℕ → ℕ → Parts
parts_at s at =
    record { operation = byte_at s at; detail = byte_at s (at + 1); operand = number_at s (at + 2) 2; constant = number_at s (at + 4) 16 }

-- the instruction that a number of the list names, with the detail, the operand and the constant beside it. (Number 0 comes out as
-- the first; it is no operation, since no instruction is spelled with it.)
abbrev pub instruction_named : Parts → Option Instruction
instruction_named p =
    get_elem?
    (push_bool (eqb p.operand 1)
    ∷ push_int p.constant
    ∷ push_key p.operand
    ∷ push_field (field_of p.detail) p.operand
    ∷ push_priority
    ∷ invert
    ∷ negate
    ∷ convert (kind_of p.detail) p.operand
    ∷ compare (comparison_of p.detail)
    ∷ connects both
    ∷ connects either
    ∷ connects if_then
    ∷ skip (record { on = eqb p.detail 1; to = eqb p.constant first_byte; over = p.operand })
    ∷ [])
    (p.operation - 1)

-- "unused parts zero": the parts are those that spell it, no others
abbrev pub same_parts : Parts → Parts → Bool
same_parts p q =
    eqb p.operation q.operation
    && eqb p.detail q.detail
    && eqb p.operand q.operand
    && eqb p.constant q.constant

-- "instruction fields in range": "operand W, 1 to 128"; of a skip "at least one, landing inside the code or exactly at its end", where so
-- many instructions are left after it. The other ranges are those of what the numbers name.
abbrev pub in_range : ℕ → Instruction → Bool
in_range left (push_bool b) = true
in_range left (push_int n) = true
in_range left (push_key k) = true
in_range left (push_field f k) = true
in_range left push_priority = true
in_range left invert = true
in_range left negate = true
in_range left (convert k w) = leb 1 w && leb w 128
in_range left (compare c) = true
in_range left (connects o) = true
in_range left (skip s) = leb 1 s.over && leb s.over left

abbrev pub decode : ℕ → Parts → Option Instruction
decode left p = and_then (instruction_named p) (λ i. when (in_range left i && same_parts p (parts_of i)) i)

-- One machine, which holds types in the load check and values in the run. "Running starts with nothing held; each instruction
-- takes its operands off the top, the right one uppermost, and leaves what "Types and meaning" gives." The load check asks for
-- "operands as above, at most 384 values held".

-- an instruction takes nothing, one, or two, left and right; and leaves one, or fails
pub data Action (A : Type 0) : Type 0 where
  leaves : Option A → Action A
  takes_one : (A → Option A) → Action A
  takes_two : (A → A → Option A) → Action A

abbrev pub most_held : ℕ
most_held = 384

abbrev pub put : {A : Type 0} → Option A → List A → Option (List A)
put none held = none
put (some a) held = when (ltb (length held) most_held) (a ∷ held)

-- what is held after an instruction; nothing where an operand is missing or does not fit, or it would be too much
abbrev pub act : {A : Type 0} → Action A → List A → Option (List A)
act (leaves o) held = put o held
act (takes_one f) [] = none
act (takes_one f) (a ∷ held) = put (f a) held
act (takes_two f) [] = none
act (takes_two f) (b ∷ []) = none
act (takes_two f) (b ∷ a ∷ held) = put (f a b) held

-- a sequence of which nothing is passed over: the index of the one that fails, or what is held at the end
pub data Walk (A : Type 0) : Type 0 where
  fails : ℕ → Walk A
  ends : List A → Walk A

abbrev pub go_on : {A : Type 0} → ℕ → Option (List A) → (List A → Walk A) → Walk A
go_on i none go = fails i
go_on i (some held) go = go held

unfoldable pub walk : {A : Type 0} → ℕ → List (Action A) → List A → Walk A
walk i [] held = ends held
walk i (x ∷ xs) held = go_on i (act x held) (walk (i + 1) xs)

abbrev pub type_action : List Key → Instruction → Action Ty
type_action ks (push_bool b) = leaves (some bool)
type_action ks (push_int n) = leaves (some int)
type_action ks (push_key k) = leaves (bare_type ks k)
type_action ks (push_field f k) = leaves (field_type ks f k)
type_action ks push_priority = leaves (some int)
type_action ks invert = takes_one not_type
type_action ks negate = takes_one negate_type
type_action ks (convert k w) = takes_one (λ a. when (takes (of k w) a) (of k w))
type_action ks (compare c) = takes_two (compare_type c)
type_action ks (connects o) = takes_two join_type
type_action ks (skip s) = takes_one not_type

-- what a skip leaves of the top bool
abbrev pub skip_value : Skip → Value → Option Value
skip_value s (truth b) = some (truth (cond (beq b s.on) s.to b))
skip_value s (whole z) = none
skip_value s (matched k w m) = none

abbrev pub value_action : List Key → Entry → Instruction → Action Value
value_action ks e (push_bool b) = leaves (some (truth b))
value_action ks e (push_int n) = leaves (some (whole (pos n)))
value_action ks e (push_key k) = leaves (bare_value ks e k)
value_action ks e (push_field f k) = leaves (field_value ks e f k)
value_action ks e push_priority = leaves (some (whole (pos e.priority)))
value_action ks e invert = takes_one not_value
value_action ks e negate = takes_one negate_value
value_action ks e (convert k w) = takes_one (convert_value k w)
value_action ks e (compare c) = takes_two (compare_value c)
value_action ks e (connects o) = takes_two (join_value o)
value_action ks e (skip s) = takes_one (skip_value s)

-- an instruction that could not be read fails
abbrev pub action_of : {A : Type 0} → (Instruction → Action A) → Option Instruction → Action A
action_of f none = leaves none
action_of f (some i) = f i

-- the skip that an instruction is
abbrev pub skip_of : Option Instruction → Option Skip
skip_of none = none
skip_of (some (push_bool b)) = none
skip_of (some (push_int n)) = none
skip_of (some (push_key k)) = none
skip_of (some (push_field f k)) = none
skip_of (some push_priority) = none
skip_of (some invert) = none
skip_of (some negate) = none
skip_of (some (convert k w)) = none
skip_of (some (compare c)) = none
skip_of (some (connects o)) = none
skip_of (some (skip s)) = some s
