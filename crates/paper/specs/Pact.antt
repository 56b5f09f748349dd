-- Source document 000, "Pact Byte Code": its grammar, what a contract says of the numbers that it is given, and its bytes. Nothing of ours
-- stands here. 02 k decides where 000 leaves room: "An assertion is two bytes, opcode and index, as in 000's hex (its remark on three is
-- wrong). A conjunction opcode after an assertion continues the clause, joined from the left."
use Rattle.std.specs.Prelude.{ℕ, ◌+◌, ◌*◌, ◌/◌, ◌%◌, ◌<◌, Bool, true, false, not, cond, ◌&&◌, ◌||◌, List, [], ◌∷◌, ◌++◌, get_or, eqb, ltb, leb}
use Rattle.std.proofs.Math.Option.{Option, none, some}

-- "A Pact may have up to 16 input arguments and up to 16 entries in a user data table."
abbrev pub most_indices : ℕ
most_indices = 16

-- "Grammar"

-- "COMPARATOR_OP: EQ | GT | GTE | IN"; 02 k refuses IN
pub data Relation : Type 0 where
  eq gt gte : Relation

-- "LOAD: LOAD_INPUT_VS_USER | LD_INPUT_VS_INPUT"
pub data Load : Type 0 where
  user input : Load

-- "CONJUNCTION_OP: AND | OR | XOR"
pub data Linking : Type 0 where
  and or xor : Linking

-- "COMPARATOR: (INVERSION + LOAD + COMPARATOR_OP)"
pub record Comparator : Type 0 where
  pub inverted : Bool
  pub load : Load
  pub relation : Relation

-- "CONJUNCTION: (INVERSION + CONJUNCTION_OP)"
pub record Conjunction : Type 0 where
  pub inverted : Bool
  pub linking : Linking

-- "ASSERTION: COMPARATOR LOAD_INDEX LOAD_INDEX"
pub record Assertion : Type 0 where
  pub comparator : Comparator
  pub left : ℕ
  pub right : ℕ

-- "| ASSERTION CONJUNCTION ASSERTION", "joined from the left". "CONTRACT: CLAUSE*" is a list of these
pub data Clause : Type 0 where
  alone : Assertion → Clause
  linked : Clause → Conjunction → Assertion → Clause

-- what a contract says, of the numbers of its inputs and of the user data table

-- "Invert the logic of the output"
abbrev pub inverts : Bool → Bool → Bool
inverts true b = not b
inverts false b = b

-- "i == j", "i > j", "i >= j"
abbrev pub relates : Relation → ℕ → ℕ → Bool
relates eq i j = eqb i j
relates gt i j = ltb j i
relates gte i j = leb j i

-- "a logical and", "an inclusive or", "an exclusive or between A and the next"
abbrev pub links : Linking → Bool → Bool → Bool
links and a b = a && b
links or a b = a || b
links xor a b = cond a (not b) b

module _ (inputs users : List ℕ) where
  -- "Compare from input to datatable entries", "from input to input entries"
  abbrev pub loaded_from : Load → ℕ → ℕ
  loaded_from user j = get_or users j 0
  loaded_from input j = get_or inputs j 0

  abbrev pub assertion_holds : Assertion → Bool
  assertion_holds a =
      let c = a.comparator in
      inverts c.inverted (relates c.relation (get_or inputs a.left 0) (loaded_from c.load a.right))

  abbrev pub clause_holds : Clause → Bool
  clause_holds (alone a) = assertion_holds a
  clause_holds (linked c j a) = inverts j.inverted (links j.linking (clause_holds c) (assertion_holds a))

  -- "A series of independent clauses ("implicit and")"
  abbrev pub contract_holds : List Clause → Bool
  contract_holds [] = true
  contract_holds (c ∷ cs) = clause_holds c && contract_holds cs

-- "OpCodes": bit 7 "operator type", bit 6 "not", bits 5 - 2 "operation", bits 1 - 0 "RESERVED"

pub data Opcode : Type 0 where
  compares : Comparator → Opcode
  conjoins : Conjunction → Opcode
  -- "IN, a nonzero reserved bit, an unused operation number" (02 k), and a number that is no byte
  wrong : Opcode

abbrev pub relation_of : ℕ → Option Relation
relation_of n = cond (eqb n 0) (some eq) (cond (eqb n 1) (some gt) (cond (eqb n 2) (some gte) none))

abbrev pub linking_of : ℕ → Option Linking
linking_of n = cond (eqb n 0) (some and) (cond (eqb n 1) (some or) (cond (eqb n 2) (some xor) none))

abbrev pub load_of : Bool → Load
load_of false = user
load_of true = input

abbrev pub comparing : Bool → Load → Option Relation → Opcode
comparing i l none = wrong
comparing i l (some r) = compares (record { inverted = i; load = l; relation = r })

abbrev pub conjoining : Bool → Option Linking → Opcode
conjoining i none = wrong
conjoining i (some l) = conjoins (record { inverted = i; linking = l })

-- "COMP = 0", "CONJ = 1"; of a comparator bit 5 is the load and bits 4 - 2 the operation
abbrev pub operator_of : ℕ → Bool → ℕ → Opcode
operator_of operator inverted operation =
    cond (eqb operator 0) (comparing inverted (load_of (eqb (operation / 8) 1)) (relation_of (operation % 8)))
    (cond (eqb operator 1) (conjoining inverted (linking_of operation)) wrong)

abbrev pub opcode_of : ℕ → Opcode
opcode_of b = cond (eqb (b % 4) 0) (operator_of (b / 128) (eqb (b / 64 % 2) 1) (b / 4 % 16)) wrong

-- "Index Codes": bits 7 - 4 "LHS index", bits 3 - 0 "RHS index"

abbrev pub left_index : ℕ → ℕ
left_index b = b / 16

abbrev pub right_index : ℕ → ℕ
right_index b = b % 16

-- the same tables the other way: the bytes of a contract

abbrev pub bit_of : Bool → ℕ → ℕ
bit_of b n = cond b n 0

abbrev pub relation_no : Relation → ℕ
relation_no eq = 0
relation_no gt = 1
relation_no gte = 2

abbrev pub linking_no : Linking → ℕ
linking_no and = 0
linking_no or = 1
linking_no xor = 2

abbrev pub load_bit : Load → ℕ
load_bit user = 0
load_bit input = 32

abbrev pub comparator_byte : Comparator → ℕ
comparator_byte c = bit_of c.inverted 64 + load_bit c.load + 4 * relation_no c.relation

abbrev pub conjunction_byte : Conjunction → ℕ
conjunction_byte j = 128 + bit_of j.inverted 64 + 4 * linking_no j.linking

abbrev pub assertion_bytes : Assertion → List ℕ
assertion_bytes a = comparator_byte a.comparator ∷ (16 * a.left + a.right) ∷ []

abbrev pub clause_bytes : Clause → List ℕ
clause_bytes (alone a) = assertion_bytes a
clause_bytes (linked c j a) = clause_bytes c ++ (conjunction_byte j ∷ assertion_bytes a)

abbrev pub contract_bytes : List Clause → List ℕ
contract_bytes [] = []
contract_bytes (c ∷ cs) = clause_bytes c ++ contract_bytes cs

-- each index has a name, or a user number, of so many
module _ (names users : ℕ) where
  abbrev pub indices_of : Load → ℕ
  indices_of user = users
  indices_of input = names

  abbrev pub Indexed : Assertion → Type 0
  Indexed a = (a.left < names) × (a.right < indices_of a.comparator.load) × (a.right < most_indices)

  abbrev pub AllIndexed : Clause → Type 0
  AllIndexed (alone a) = Indexed a
  AllIndexed (linked c j a) = AllIndexed c × Indexed a
