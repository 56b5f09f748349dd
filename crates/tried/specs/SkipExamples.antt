-- 02 g, "Stop early, and count", by example: the bytes of a skip and what can be read as one, its landing in the load check, and what a run
-- with skips leaves and how many steps it takes.
use Rattle.std.specs.Prelude.{ℕ, ◌+◌, ◌^◌, ◌≡◌, true, false, List, [], ◌∷◌, ◌++◌, replicate}
use Rattle.std.proofs.Math.Option.{Option, none, some}
use Rattle.paper.specs.Answers.{Answer, ok, ◌>>=◌, Ran}
use Rattle.paper.specs.Keys.{keys}
use Rattle.paper.specs.Entry.{entry_of}
use Rattle.paper.specs.Code.{Instruction, push_bool, invert, connects, skip, Parts, encode, decode, first_byte, Walk, ends}
use Rattle.paper.specs.Code as C
use Rattle.paper.specs.Types.{Ty, bool}
use Rattle.paper.specs.Meaning.{Value, truth}
use Rattle.paper.specs.Loading.{program, types_along, Step, Run, stuck, done, run_along}
use Rattle.paper.specs.Calls.{ran_to}
use Rattle.paper.specs.LoadedBlocksRun.{types_through, values_through, Rising}
use Rattle.paper.specs.CodeCorrect.{after_all}
use Rattle.tried.specs.MarkedJudgements.{the_keys, the_entry}
use Rattle.tried.specs.Examples.{Example, on, Agree}
use Rattle.tried.specs.BlockExamples.{row, block, push_true}
use Rattle.tried.specs.InstructionExamples.{parts, yes, no, int, key, priority, not, minus, compares, and, or, read_in, loads, passed, fails}
use Rattle.tried.specs.TranslationExamples.{skips}

-- "the detail byte (0 or 1) .. the constant's first byte (0 or 1) .. as many instructions as the operand says"
abbrev pub in_bytes : List (Example Instruction (List ℕ))
in_bytes =
    on (skips false false 1) (13 ∷ 0 ∷ 0 ∷ 1 ∷ replicate 16 0)
    ∷ on (skips true false 0x0102) (13 ∷ 1 ∷ 1 ∷ 2 ∷ replicate 16 0)
    ∷ on (skips false true 0xFFFF) (13 ∷ 0 ∷ 0xFF ∷ 0xFF ∷ 1 ∷ replicate 15 0)
    ∷ on (skips true true 3) (13 ∷ 1 ∷ 0 ∷ 3 ∷ 1 ∷ replicate 15 0)
    ∷ []

-- "at least one, landing inside the code or exactly at its end": where three instructions are left after it
abbrev pub decodings : List (Example Parts (Option Instruction))
decodings =
    on (parts 13 0 1 0) (some (skips false false 1))
    ∷ on (parts 13 1 2 0) (some (skips true false 2))
    ∷ on (parts 13 0 3 first_byte) (some (skips false true 3))
    ∷ on (parts 13 1 3 first_byte) (some (skips true true 3))
    -- detail 2; over none, and past the end; the first byte 2, the second 1, the last 1, beside the first too
    ∷ on (parts 13 2 1 0) none
    ∷ on (parts 13 0 0 0) none
    ∷ on (parts 13 0 4 0) none
    ∷ on (parts 13 0 65535 0) none
    ∷ on (parts 13 0 1 (2 ^ 121)) none
    ∷ on (parts 13 0 1 (2 ^ 112)) none
    ∷ on (parts 13 0 1 1) none
    ∷ on (parts 13 0 1 (first_byte + 1)) none
    ∷ []

-- as the last instruction there is none that it could pass over
abbrev pub LastIsNone : Type 0
LastIsNone = decode 0 (parts 13 0 1 0) ≡ none

abbrev pub FarthestReads : Type 0
FarthestReads = decode 65535 (parts 13 0 65535 0) ≡ some (skips false false 65535)

-- in a block: of three instructions a skip over one is read as the second, and as the third it is not
pub record InBlocks : Type 0 where
  pub before_the_last : program (block 0 3 (push_true ++ row 13 0 1 ++ row 6 0 0 ++ replicate 440 0) 3 0)
      ≡ some (push_bool true) ∷ some (skips false false 1) ∷ some invert ∷ []
  pub as_the_last : program (block 0 3 (push_true ++ row 6 0 0 ++ row 13 0 1 ++ replicate 440 0) 3 0)
      ≡ some (push_bool true) ∷ some invert ∷ none ∷ []

-- a skip on false to false
abbrev pub over : ℕ → Parts
over n = parts 13 0 n 0

-- a skip on a bool to another
abbrev pub skip_on : ℕ → ℕ → ℕ → Parts
skip_on from to n = parts 13 from n to

-- "The load check asks that the types held at the landing equal those at the skip; a skip that breaks this or any rule above is number 18
-- at the skip's first byte." Instructions begin at 4, 24, 44, 64, 84 ..
abbrev pub loadable : List (Example (List Parts) (Answer (Unit {0})))
loadable =
    -- landing inside the code, and exactly at its end
    on (yes ∷ over 2 ∷ no ∷ and ∷ []) passed
    ∷ on (yes ∷ over 2 ∷ no ∷ and ∷ not ∷ []) passed
    ∷ on (yes ∷ over 1 ∷ not ∷ []) passed
    ∷ on (yes ∷ over 1 ∷ not ∷ not ∷ []) passed
    -- past the end; over none; as the last
    ∷ on (yes ∷ over 3 ∷ no ∷ and ∷ []) (fails 24)
    ∷ on (yes ∷ over 65535 ∷ no ∷ and ∷ []) (fails 24)
    ∷ on (yes ∷ over 0 ∷ no ∷ and ∷ []) (fails 24)
    ∷ on (yes ∷ over 1 ∷ []) (fails 24)
    -- no bool on top
    ∷ on (over 1 ∷ yes ∷ []) (fails 4)
    ∷ on (int 1 ∷ over 2 ∷ int 1 ∷ compares 0 ∷ []) (fails 24)
    ∷ on (key 0 ∷ over 2 ∷ key 0 ∷ compares 0 ∷ []) (fails 24)
    -- though the landing would fit
    ∷ on (int 1 ∷ over 1 ∷ minus ∷ int 1 ∷ compares 0 ∷ []) (fails 24)
    ∷ on (key 0 ∷ over 1 ∷ minus ∷ key 0 ∷ compares 0 ∷ []) (fails 24)
    -- other types at the landing: one more value, inside and at the end; one fewer; a bool that became an int below
    ∷ on (yes ∷ over 1 ∷ no ∷ and ∷ []) (fails 24)
    ∷ on (yes ∷ over 1 ∷ yes ∷ []) (fails 24)
    ∷ on (yes ∷ yes ∷ over 1 ∷ and ∷ []) (fails 44)
    ∷ on (yes ∷ yes ∷ over 2 ∷ and ∷ int 1 ∷ int 1 ∷ compares 0 ∷ and ∷ []) (fails 44)
    -- as many values, and a bool on top of an int
    ∷ on (yes ∷ yes ∷ yes ∷ over 4 ∷ and ∷ and ∷ int 1 ∷ yes ∷ and ∷ and ∷ []) (fails 64)
    -- a landing that fits, and an end that does not: "or length at the end"
    ∷ on (yes ∷ yes ∷ over 1 ∷ not ∷ []) (fails 512)
    -- types that change and come back between the skip and its landing
    ∷ on (yes ∷ yes ∷ over 2 ∷ and ∷ yes ∷ and ∷ []) passed
    ∷ on (yes ∷ yes ∷ over 4 ∷ and ∷ int 1 ∷ int 1 ∷ compares 0 ∷ and ∷ []) passed
    ∷ on (int 1 ∷ yes ∷ over 1 ∷ not ∷ not ∷ []) (fails 512)
    -- a skip in a skip
    ∷ on (yes ∷ over 4 ∷ no ∷ over 1 ∷ not ∷ and ∷ []) passed
    -- "A landing past an instruction that fails by itself is not compared." Past it, and at it, which is compared
    ∷ on (yes ∷ over 2 ∷ minus ∷ yes ∷ []) (fails 44)
    ∷ on (yes ∷ over 1 ∷ yes ∷ minus ∷ []) (fails 24)
    ∷ on (yes ∷ over 1 ∷ not ∷ minus ∷ []) (fails 64)
    -- an inner skip that lands outside fails by itself, and one that misfits does not
    ∷ on (yes ∷ over 3 ∷ yes ∷ over 9 ∷ yes ∷ []) (fails 64)
    ∷ on (yes ∷ over 3 ∷ yes ∷ over 1 ∷ yes ∷ []) (fails 24)
    -- across a block's end: from instruction 24, and onto instruction 26
    ∷ on (replicate 22 yes ++ (yes ∷ over 3 ∷ not ∷ not ∷ not ∷ replicate 22 and)) passed
    ∷ on (replicate 22 yes ++ (yes ∷ over 3 ∷ not ∷ not ∷ yes ∷ replicate 23 and)) (fails 464)
    ∷ []

-- "at most 384 values held": a skip takes one and leaves one
abbrev pub full : List Parts
full = replicate 384 yes ++ (over 1 ∷ not ∷ replicate 383 and)

abbrev pub FullLoads : Type 0
FullLoads = types_along [] (read_in full) ≡ ends (bool ∷ [])

-- "if the top bool equals the detail byte .., replace it by the bool in the constant's first byte .. and pass over as many instructions as
-- the operand says"; "Running reports the steps taken"

abbrev pub runs : List Parts → Answer Ran
runs code = keys the_keys >>= λ ks. entry_of ks the_entry >>= λ e. ok (ran_to (run_along ks e (read_in code)))

abbrev pub accepted : ℕ → Answer Ran
accepted steps = ok (record { accepted = true; steps = steps })

abbrev pub violated : ℕ → Answer Ran
violated steps = ok (record { accepted = false; steps = steps })

abbrev pub ran : List (Example (List Parts) (Answer Ran))
ran =
    -- not taken: the bool stays; taken: it is replaced, and what is passed over is not carried out
    on (yes ∷ over 1 ∷ not ∷ []) (violated 3)
    ∷ on (no ∷ over 1 ∷ not ∷ []) (violated 2)
    ∷ on (no ∷ skip_on 0 first_byte 1 ∷ not ∷ []) (accepted 2)
    ∷ on (yes ∷ skip_on 0 first_byte 1 ∷ not ∷ []) (violated 3)
    ∷ on (yes ∷ skip_on 1 0 1 ∷ not ∷ []) (violated 2)
    ∷ on (no ∷ skip_on 1 0 1 ∷ not ∷ []) (accepted 3)
    ∷ on (yes ∷ skip_on 1 first_byte 1 ∷ not ∷ []) (accepted 2)
    -- a landing before the end, where the run goes on
    ∷ on (no ∷ over 1 ∷ not ∷ not ∷ []) (accepted 3)
    ∷ on (yes ∷ over 2 ∷ no ∷ and ∷ not ∷ []) (accepted 5)
    -- a skip that lands on a skip: both are steps
    ∷ on (no ∷ over 2 ∷ yes ∷ and ∷ over 2 ∷ yes ∷ and ∷ []) (violated 3)
    ∷ on (yes ∷ over 2 ∷ no ∷ and ∷ over 2 ∷ yes ∷ and ∷ []) (violated 5)
    ∷ on (yes ∷ over 2 ∷ yes ∷ and ∷ over 2 ∷ yes ∷ and ∷ []) (accepted 7)
    -- without skips each instruction is a step
    ∷ on (priority ∷ int 10 ∷ compares 0 ∷ []) (accepted 3)
    ∷ on (yes ∷ no ∷ or ∷ yes ∷ and ∷ []) (accepted 5)
    ∷ []

-- "In demand 3 "each once" becomes "each at most once"": the steps by their indices, with what each finds, and what is left; or where code that
-- does not load gets stuck

abbrev pub goes : List Parts → Answer Run
goes code = keys the_keys >>= λ ks. entry_of ks the_entry >>= λ e. ok (run_along ks e (read_in code))

abbrev pub step : ℕ → List Value → Step
step at held = record { at = at; held = held }

abbrev pub wrong : Value
wrong = truth false

abbrev pub right : Value
right = truth true

abbrev pub went : List (Example (List Parts) (Answer Run))
went =
    on (yes ∷ over 1 ∷ not ∷ []) (ok (done (step 0 [] ∷ step 1 (right ∷ []) ∷ step 2 (right ∷ []) ∷ []) (wrong ∷ [])))
    ∷ on (no ∷ over 1 ∷ not ∷ not ∷ []) (ok (done (step 0 [] ∷ step 1 (wrong ∷ []) ∷ step 3 (wrong ∷ []) ∷ []) (right ∷ [])))
    ∷ on (yes ∷ no ∷ over 1 ∷ not ∷ and ∷ [])
    (ok (done (step 0 [] ∷ step 1 (right ∷ []) ∷ step 2 (wrong ∷ right ∷ []) ∷ step 4 (wrong ∷ right ∷ []) ∷ []) (wrong ∷ [])))
    ∷ on (yes ∷ minus ∷ []) (ok (stuck 1))
    ∷ on (no ∷ over 1 ∷ not ∷ minus ∷ []) (ok (stuck 3))
    ∷ on (yes ∷ int 1 ∷ over 1 ∷ minus ∷ []) (ok (stuck 2))
    ∷ on (yes ∷ key 0 ∷ over 1 ∷ minus ∷ []) (ok (stuck 2))
    ∷ on (over 1 ∷ yes ∷ []) (ok (stuck 0))
    ∷ []

-- steps put before those of a run
abbrev pub Before : Type 0
Before =
    after_all (step 0 [] ∷ step 1 (right ∷ []) ∷ []) (done (step 2 (right ∷ []) ∷ []) (wrong ∷ []))
    ≡ done (step 0 [] ∷ step 1 (right ∷ []) ∷ step 2 (right ∷ []) ∷ []) (wrong ∷ [])

-- such steps rise; the same index twice, one that falls back, one below the first and one past the last do not
pub record Indices : Type 0 where
  pub rising : Rising 0 4 (step 0 [] ∷ step 1 [] ∷ step 3 [] ∷ [])
  pub twice : ¬ Rising 0 4 (step 1 [] ∷ step 1 [] ∷ [])
  pub back : ¬ Rising 0 4 (step 2 [] ∷ step 1 [] ∷ [])
  pub below : ¬ Rising 1 4 (step 0 [] ∷ [])
  pub past : ¬ Rising 0 4 (step 4 [] ∷ [])

-- the same code as 01 walked it, where nothing is passed over: the types, and the values

abbrev pub walks_with_types : List Parts → Answer (Walk Ty)
walks_with_types code = keys the_keys >>= λ ks. ok (types_through ks (read_in code))

abbrev pub types_walked : List (Example (List Parts) (Answer (Walk Ty)))
types_walked =
    on (yes ∷ over 1 ∷ yes ∷ []) (ok (ends (bool ∷ bool ∷ [])))
    ∷ on (no ∷ over 1 ∷ not ∷ minus ∷ []) (ok (C.fails 3))
    ∷ on (not ∷ []) (ok (C.fails 0))
    ∷ []

abbrev pub walks_with_values : List Parts → Answer (Walk Value)
walks_with_values code = keys the_keys >>= λ ks. entry_of ks the_entry >>= λ e. ok (values_through ks e (read_in code))

abbrev pub values_walked : List (Example (List Parts) (Answer (Walk Value)))
values_walked =
    on (no ∷ over 1 ∷ not ∷ []) (ok (ends (right ∷ [])))
    ∷ on (no ∷ skip_on 0 first_byte 1 ∷ not ∷ []) (ok (ends (wrong ∷ [])))
    ∷ on (no ∷ over 1 ∷ not ∷ minus ∷ []) (ok (C.fails 3))
    ∷ on (not ∷ []) (ok (C.fails 0))
    ∷ []

pub record SkipExamples : Type 0 where
  pub encoded : Agree encode in_bytes
  pub decoded : Agree (decode 3) decodings
  pub last : LastIsNone
  pub farthest : FarthestReads
  pub in_blocks_lem : InBlocks
  pub loaded : Agree loads loadable
  pub full_loads : FullLoads
  pub runs_counted : Agree runs ran
  pub runs_stepped : Agree goes went
  pub before : Before
  pub indices : Indices
  pub types_walked_lem : Agree walks_with_types types_walked
  pub values_walked_lem : Agree walks_with_values values_walked
