-- 01, "Blocks", the instructions, by example (for skips see SkipExamples): their bytes, what can be read as one, the load check of each, and what each leaves in a run.
use Rattle.std.specs.Prelude.{ℕ, ◌-◌, ◌^◌, ◌≡◌, Bool, true, false, List, [], ◌∷◌, ◌++◌, length, replicate}
use Rattle.std.proofs.Math.Option.{Option, none, some}
use Rattle.paper.specs.Answers.{Answer, ok, refused, ◌>>=◌, in_blocks}
use Rattle.paper.specs.Tokens.{equal, unequal, greater, at_least, less, at_most}
use Rattle.paper.specs.Keys.{exact, ternary, lpm, range, optional, keys}
use Rattle.paper.specs.Entry.{entry_of}
use Rattle.paper.specs.Types.{value, mask, prefix_length, low, high}
use Rattle.paper.specs.Meaning.{both, either, if_then}
use Rattle.paper.specs.Code.{Instruction, push_bool, push_int, push_key, push_field, push_priority, invert, negate, convert, compare, connects, Parts, encode, parts_at, decode}
use Rattle.paper.specs.Loading.{types_along, load_check, run_along, left_true}
use Rattle.tried.specs.MarkedJudgements.{the_keys, the_entry}
use Rattle.tried.specs.Examples.{Example, on, Agree, numbers_from}
use Rattle.tried.specs.BlockExamples.{row}
use Rattle.tried.specs.MeaningExamples.{one_each}

abbrev pub parts : ℕ → ℕ → ℕ → ℕ → Parts
parts operation detail operand constant = record { operation = operation; detail = detail; operand = operand; constant = constant }

-- "Instructions are 20 bytes: operation, detail byte, two-byte operand, 16-byte constant; unused parts zero."

abbrev pub in_bytes : List (Example Instruction (List ℕ))
in_bytes =
    on (push_bool false) (row 1 0 0)
    ∷ on (push_bool true) (row 1 0 1)
    ∷ on (push_int 0x0102030405060708090a0b0c0d0e0f10) (2 ∷ 0 ∷ 0 ∷ 0 ∷ numbers_from 1 16)
    ∷ on (push_key 0x0102) (3 ∷ 0 ∷ 1 ∷ 2 ∷ replicate 16 0)
    ∷ on (push_field value 1) (row 4 0 1)
    ∷ on (push_field mask 2) (row 4 1 2)
    ∷ on (push_field prefix_length 3) (row 4 2 3)
    ∷ on (push_field low 4) (row 4 3 4)
    ∷ on (push_field high 5) (row 4 4 5)
    ∷ on push_priority (row 5 0 0)
    ∷ on invert (row 6 0 0)
    ∷ on negate (row 7 0 0)
    ∷ on (convert exact 1) (row 8 0 1)
    ∷ on (convert ternary 2) (row 8 1 2)
    ∷ on (convert lpm 3) (row 8 2 3)
    ∷ on (convert range 4) (row 8 3 4)
    ∷ on (convert optional 128) (row 8 4 128)
    ∷ on (compare equal) (row 9 0 0)
    ∷ on (compare unequal) (row 9 1 0)
    ∷ on (compare greater) (row 9 2 0)
    ∷ on (compare at_least) (row 9 3 0)
    ∷ on (compare less) (row 9 4 0)
    ∷ on (compare at_most) (row 9 5 0)
    ∷ on (connects both) (row 10 0 0)
    ∷ on (connects either) (row 11 0 0)
    ∷ on (connects if_then) (row 12 0 0)
    ∷ []

abbrev pub PartsInBytes : Type 0
PartsInBytes = parts_at (numbers_from 0 40) 7 ≡ parts 7 8 0x090a 0x0b0c0d0e0f101112131415161718191a

-- "Operations: 1 push bool (operand 0 or 1), 2 push int (constant), 3 push bare key (operand: index), 4 push field (operand: index;
-- detail 0 value, 1 mask, 2 prefix_length, 3 low, 4 high), 5 push priority, 6 not, 7 negate, 8 convert the top (detail: 0 for bit, else
-- the kind; operand W, 1 to 128), 9 compare (detail 0 ==, 1 !=, 2 >, 3 >=, 4 <, 5 <=), 10 and, 11 or, 12 implies." Both sides of each
-- limit, and each part that is not used
abbrev pub decodings : List (Example Parts (Option Instruction))
decodings =
    on (parts 0 0 0 0) none
    ∷ on (parts 1 0 0 0) (some (push_bool false))
    ∷ on (parts 1 0 1 0) (some (push_bool true))
    ∷ on (parts 1 0 2 0) none
    ∷ on (parts 1 1 0 0) none
    ∷ on (parts 1 0 0 1) none
    ∷ on (parts 2 0 0 0) (some (push_int 0))
    ∷ on (parts 2 0 0 (2 ^ 128 - 1)) (some (push_int (2 ^ 128 - 1)))
    ∷ on (parts 2 1 0 0) none
    ∷ on (parts 2 0 1 0) none
    ∷ on (parts 3 0 0 0) (some (push_key 0))
    ∷ on (parts 3 0 65535 0) (some (push_key 65535))
    ∷ on (parts 3 1 0 0) none
    ∷ on (parts 3 0 0 1) none
    ∷ on (parts 4 0 0 0) (some (push_field value 0))
    ∷ on (parts 4 1 1 0) (some (push_field mask 1))
    ∷ on (parts 4 2 2 0) (some (push_field prefix_length 2))
    ∷ on (parts 4 3 3 0) (some (push_field low 3))
    ∷ on (parts 4 4 31 0) (some (push_field high 31))
    ∷ on (parts 4 5 0 0) none
    ∷ on (parts 4 0 0 1) none
    ∷ on (parts 5 0 0 0) (some push_priority)
    ∷ on (parts 5 1 0 0) none
    ∷ on (parts 5 0 1 0) none
    ∷ on (parts 5 0 0 1) none
    ∷ on (parts 6 0 0 0) (some invert)
    ∷ on (parts 6 1 0 0) none
    ∷ on (parts 6 0 1 0) none
    ∷ on (parts 6 0 0 1) none
    ∷ on (parts 7 0 0 0) (some negate)
    ∷ on (parts 7 1 0 0) none
    ∷ on (parts 7 0 1 0) none
    ∷ on (parts 7 0 0 1) none
    ∷ on (parts 8 0 1 0) (some (convert exact 1))
    ∷ on (parts 8 1 2 0) (some (convert ternary 2))
    ∷ on (parts 8 2 3 0) (some (convert lpm 3))
    ∷ on (parts 8 3 4 0) (some (convert range 4))
    ∷ on (parts 8 4 128 0) (some (convert optional 128))
    ∷ on (parts 8 5 1 0) none
    ∷ on (parts 8 0 0 0) none
    ∷ on (parts 8 0 129 0) none
    ∷ on (parts 8 0 1 1) none
    ∷ on (parts 9 0 0 0) (some (compare equal))
    ∷ on (parts 9 1 0 0) (some (compare unequal))
    ∷ on (parts 9 2 0 0) (some (compare greater))
    ∷ on (parts 9 3 0 0) (some (compare at_least))
    ∷ on (parts 9 4 0 0) (some (compare less))
    ∷ on (parts 9 5 0 0) (some (compare at_most))
    ∷ on (parts 9 6 0 0) none
    ∷ on (parts 9 0 1 0) none
    ∷ on (parts 9 0 0 1) none
    ∷ on (parts 10 0 0 0) (some (connects both))
    ∷ on (parts 10 1 0 0) none
    ∷ on (parts 10 0 1 0) none
    ∷ on (parts 10 0 0 1) none
    ∷ on (parts 11 0 0 0) (some (connects either))
    ∷ on (parts 11 1 0 0) none
    ∷ on (parts 11 0 1 0) none
    ∷ on (parts 11 0 0 1) none
    ∷ on (parts 12 0 0 0) (some (connects if_then))
    ∷ on (parts 12 1 0 0) none
    ∷ on (parts 12 0 1 0) none
    ∷ on (parts 12 0 0 1) none
    ∷ on (parts 14 0 0 0) none
    ∷ on (parts 255 0 0 0) none
    ∷ []

-- instructions by name, of the marked keys v exact 1, d ternary 8, p lpm 8, r range 16, o optional 4

abbrev pub no : Parts
no = parts 1 0 0 0

abbrev pub yes : Parts
yes = parts 1 0 1 0

abbrev pub int : ℕ → Parts
int n = parts 2 0 0 n

abbrev pub key : ℕ → Parts
key index = parts 3 0 index 0

abbrev pub field : ℕ → ℕ → Parts
field detail index = parts 4 detail index 0

abbrev pub priority : Parts
priority = parts 5 0 0 0

abbrev pub not : Parts
not = parts 6 0 0 0

abbrev pub minus : Parts
minus = parts 7 0 0 0

abbrev pub to : ℕ → ℕ → Parts
to kind width = parts 8 kind width 0

abbrev pub compares : ℕ → Parts
compares detail = parts 9 detail 0 0

abbrev pub and : Parts
and = parts 10 0 0 0

abbrev pub or : Parts
or = parts 11 0 0 0

abbrev pub implies : Parts
implies = parts 12 0 0 0

-- "The load check follows the types through the sequence: operands as above, at most 384 values held, one bool at the end; instruction
-- fields in range." 18: an instruction's "first byte, or length at the end", in one block

-- parts in a row, each read with those that are left after it
abbrev pub read_in : List Parts → List (Option Instruction)
read_in [] = []
read_in (p ∷ code) = decode (length code) p ∷ read_in code

abbrev pub loads : List Parts → Answer (Unit {0})
loads code = keys the_keys >>= λ ks. load_check 512 (types_along ks (read_in code))

abbrev pub passed : Answer (Unit {0})
passed = ok tt

-- at the first byte of the first three instructions, 4, 24 and 44; of the 26th and 27th, 516 and 536; or at the length
abbrev pub fails : ℕ → Answer (Unit {0})
fails place = refused 18 in_blocks place

abbrev pub loadable : List (Example (List Parts) (Answer (Unit {0})))
loadable =
    -- "one bool at the end"
    on (yes ∷ []) passed
    ∷ on [] (fails 512)
    ∷ on (int 1 ∷ []) (fails 512)
    ∷ on (key 0 ∷ []) (fails 512)
    ∷ on (key 1 ∷ []) (fails 512)
    ∷ on (priority ∷ []) (fails 512)
    ∷ on (yes ∷ yes ∷ []) (fails 512)
    ∷ on (int 1 ∷ yes ∷ []) (fails 512)
    -- bytes that are no instruction, a key past the last one, a field that the kind lacks
    ∷ on (parts 14 0 0 0 ∷ []) (fails 4)
    ∷ on (yes ∷ parts 6 1 0 0 ∷ []) (fails 24)
    ∷ on (key 4 ∷ key 4 ∷ compares 0 ∷ []) passed
    ∷ on (key 5 ∷ []) (fails 4)
    ∷ on (field 0 0 ∷ field 0 0 ∷ compares 0 ∷ []) passed
    ∷ on (field 1 0 ∷ []) (fails 4)
    ∷ on (field 2 2 ∷ int 8 ∷ compares 5 ∷ []) passed
    ∷ on (field 3 3 ∷ field 4 3 ∷ compares 4 ∷ []) passed
    ∷ on (field 0 5 ∷ []) (fails 4)
    ∷ on (priority ∷ int 1 ∷ compares 2 ∷ []) passed
    -- not
    ∷ on (yes ∷ not ∷ []) passed
    ∷ on (not ∷ []) (fails 4)
    ∷ on (int 1 ∷ not ∷ []) (fails 24)
    ∷ on (key 0 ∷ not ∷ []) (fails 24)
    -- negate
    ∷ on (int 1 ∷ minus ∷ int 1 ∷ compares 0 ∷ []) passed
    ∷ on (key 0 ∷ minus ∷ key 0 ∷ compares 0 ∷ []) passed
    ∷ on (minus ∷ []) (fails 4)
    ∷ on (yes ∷ minus ∷ []) (fails 24)
    ∷ on (key 1 ∷ minus ∷ []) (fails 24)
    -- "Convert takes int, or for a bare-key type also bit of that W."
    ∷ on (int 1 ∷ to 0 1 ∷ key 0 ∷ compares 0 ∷ []) passed
    ∷ on (int 1 ∷ to 1 8 ∷ key 1 ∷ compares 0 ∷ []) passed
    ∷ on (int 1 ∷ to 2 8 ∷ key 2 ∷ compares 0 ∷ []) passed
    ∷ on (int 1 ∷ to 3 16 ∷ key 3 ∷ compares 0 ∷ []) passed
    ∷ on (int 1 ∷ to 4 4 ∷ key 4 ∷ compares 0 ∷ []) passed
    ∷ on (field 0 1 ∷ to 1 8 ∷ key 1 ∷ compares 0 ∷ []) passed
    ∷ on (field 0 1 ∷ to 4 8 ∷ field 0 1 ∷ to 4 8 ∷ compares 0 ∷ []) passed
    ∷ on (field 0 1 ∷ to 1 4 ∷ []) (fails 24)
    ∷ on (field 0 1 ∷ to 0 8 ∷ []) (fails 24)
    ∷ on (key 1 ∷ to 1 8 ∷ []) (fails 24)
    ∷ on (yes ∷ to 0 1 ∷ []) (fails 24)
    ∷ on (to 0 1 ∷ []) (fails 4)
    -- "compare then needs equal types"
    ∷ on (int 1 ∷ int 2 ∷ compares 3 ∷ []) passed
    ∷ on (yes ∷ no ∷ compares 1 ∷ []) passed
    ∷ on (yes ∷ no ∷ compares 2 ∷ []) (fails 44)
    ∷ on (key 1 ∷ key 1 ∷ compares 1 ∷ []) passed
    ∷ on (key 1 ∷ key 1 ∷ compares 4 ∷ []) (fails 44)
    ∷ on (key 1 ∷ key 2 ∷ compares 0 ∷ []) (fails 44)
    ∷ on (key 0 ∷ int 1 ∷ compares 0 ∷ []) (fails 44)
    ∷ on (int 1 ∷ key 0 ∷ compares 0 ∷ []) (fails 44)
    ∷ on (int 1 ∷ compares 0 ∷ []) (fails 24)
    ∷ on (compares 0 ∷ []) (fails 4)
    -- and, or, implies
    ∷ on (yes ∷ no ∷ and ∷ []) passed
    ∷ on (yes ∷ no ∷ or ∷ []) passed
    ∷ on (yes ∷ no ∷ implies ∷ []) passed
    ∷ on (int 1 ∷ yes ∷ and ∷ []) (fails 44)
    ∷ on (yes ∷ int 1 ∷ or ∷ []) (fails 44)
    ∷ on (key 0 ∷ yes ∷ implies ∷ []) (fails 44)
    ∷ on (yes ∷ and ∷ []) (fails 24)
    ∷ on (and ∷ []) (fails 4)
    -- "the earliest place wins"; the instruction that begins the second block
    ∷ on (not ∷ parts 14 0 0 0 ∷ []) (fails 4)
    ∷ on (yes ∷ (replicate 24 not ++ (minus ∷ []))) (fails 516)
    ∷ on (yes ∷ (replicate 25 not ++ (minus ∷ []))) (fails 536)
    ∷ []

-- "each instruction takes its operands off the top, the right one uppermost, and leaves what "Types and meaning" gives. The entry is
-- accepted exactly when the bool left at the end is true, else violated"

abbrev pub runs : List ℕ → List Parts → Answer Bool
runs entry code = keys the_keys >>= λ ks. entry_of ks entry >>= λ e. ok (left_true (run_along ks e (read_in code)))

abbrev pub accepted : List Parts → Example (List Parts) (Answer Bool)
accepted code = on code (ok true)

abbrev pub violated : List Parts → Example (List Parts) (Answer Bool)
violated code = on code (ok false)

abbrev pub on_the_marked_entry : List (Example (List Parts) (Answer Bool))
on_the_marked_entry =
    accepted (yes ∷ [])
    ∷ violated (no ∷ [])
    ∷ violated (yes ∷ not ∷ [])
    ∷ accepted (no ∷ not ∷ [])
    -- and, or, implies
    ∷ accepted (yes ∷ yes ∷ and ∷ [])
    ∷ violated (yes ∷ no ∷ and ∷ [])
    ∷ accepted (no ∷ yes ∷ or ∷ [])
    ∷ violated (no ∷ no ∷ or ∷ [])
    ∷ accepted (no ∷ yes ∷ implies ∷ [])
    ∷ violated (yes ∷ no ∷ implies ∷ [])
    -- the six comparisons: == != > >= < <=
    ∷ accepted (int 5 ∷ int 5 ∷ compares 0 ∷ [])
    ∷ violated (int 5 ∷ int 6 ∷ compares 0 ∷ [])
    ∷ accepted (int 5 ∷ int 6 ∷ compares 1 ∷ [])
    ∷ accepted (int 6 ∷ int 5 ∷ compares 2 ∷ [])
    ∷ violated (int 5 ∷ int 6 ∷ compares 2 ∷ [])
    ∷ violated (int 5 ∷ int 5 ∷ compares 2 ∷ [])
    ∷ accepted (int 6 ∷ int 5 ∷ compares 3 ∷ [])
    ∷ violated (int 5 ∷ int 6 ∷ compares 3 ∷ [])
    ∷ accepted (int 5 ∷ int 5 ∷ compares 3 ∷ [])
    ∷ accepted (int 5 ∷ int 6 ∷ compares 4 ∷ [])
    ∷ violated (int 6 ∷ int 5 ∷ compares 4 ∷ [])
    ∷ violated (int 5 ∷ int 5 ∷ compares 4 ∷ [])
    ∷ accepted (int 5 ∷ int 6 ∷ compares 5 ∷ [])
    ∷ violated (int 6 ∷ int 5 ∷ compares 5 ∷ [])
    ∷ accepted (int 5 ∷ int 5 ∷ compares 5 ∷ [])
    -- negate, of an int and of bit<W>
    ∷ accepted (int 5 ∷ minus ∷ int 0 ∷ compares 4 ∷ [])
    ∷ accepted (int 5 ∷ minus ∷ minus ∷ int 5 ∷ compares 0 ∷ [])
    ∷ accepted (field 0 1 ∷ minus ∷ int 0xe0 ∷ to 0 8 ∷ compares 0 ∷ [])
    -- keys, fields and the priority
    ∷ accepted (key 0 ∷ int 1 ∷ to 0 1 ∷ compares 0 ∷ [])
    ∷ accepted (key 1 ∷ key 1 ∷ compares 0 ∷ [])
    ∷ accepted (field 0 1 ∷ int 0x20 ∷ to 0 8 ∷ compares 0 ∷ [])
    ∷ accepted (field 1 1 ∷ int 0xf0 ∷ to 0 8 ∷ compares 0 ∷ [])
    ∷ accepted (field 2 2 ∷ int 2 ∷ compares 0 ∷ [])
    ∷ accepted (field 3 3 ∷ int 80 ∷ to 0 16 ∷ compares 0 ∷ [])
    ∷ accepted (field 4 3 ∷ int 443 ∷ to 0 16 ∷ compares 0 ∷ [])
    ∷ accepted (priority ∷ int 10 ∷ compares 0 ∷ [])
    -- convert: modulo 2^W, of a negative number too
    ∷ accepted (int 0x120 ∷ to 0 8 ∷ field 0 1 ∷ compares 0 ∷ [])
    ∷ accepted (int 16 ∷ minus ∷ to 0 8 ∷ field 1 1 ∷ compares 0 ∷ [])
    ∷ violated (key 1 ∷ int 0x20 ∷ to 1 8 ∷ compares 0 ∷ [])
    ∷ []

-- each key with the match of one value, to which a number is converted
abbrev pub on_one_value_each : List (Example (List Parts) (Answer Bool))
on_one_value_each =
    accepted (key 1 ∷ int 0xbb ∷ to 1 8 ∷ compares 0 ∷ [])
    ∷ accepted (key 1 ∷ field 0 1 ∷ to 1 8 ∷ compares 0 ∷ [])
    ∷ accepted (key 2 ∷ int 0xc1 ∷ to 2 8 ∷ compares 0 ∷ [])
    ∷ accepted (key 3 ∷ int 443 ∷ to 3 16 ∷ compares 0 ∷ [])
    ∷ violated (key 3 ∷ int 444 ∷ to 3 16 ∷ compares 0 ∷ [])
    ∷ accepted (key 4 ∷ int 5 ∷ to 4 4 ∷ compares 0 ∷ [])
    ∷ violated (key 4 ∷ int 4 ∷ to 4 4 ∷ compares 0 ∷ [])
    ∷ []

pub record InstructionExamples : Type 0 where
  pub encoded : Agree encode in_bytes
  pub parted : PartsInBytes
  pub decoded : Agree (decode 0) decodings
  pub loaded : Agree loads loadable
  pub run_on_the_marked_entry : Agree (runs the_entry) on_the_marked_entry
  pub run_on_one_value_each : Agree (runs one_each) on_one_value_each
