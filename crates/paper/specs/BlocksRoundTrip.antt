-- What it means that instructions and blocks read back as they were written.
use Rattle.std.specs.Prelude.{ℕ, ◌+◌, ◌*◌, ◌^◌, ◌≤◌, ◌<◌, ◌≡◌, List, [], ◌∷◌, ◌++◌, map, length, drop}
use Rattle.std.proofs.Math.Option.{some}
use Rattle.paper.specs.Answers.{ok}
use Rattle.paper.specs.Numbers.{bytes_at}
use Rattle.paper.specs.Keys.{Key, most_keys, keys}
use Rattle.paper.specs.Grammar.{Tree, truth, number, key, field, attribute, prefixed, joined, compared}
use Rattle.paper.specs.Code.{Instruction, push_bool, push_int, push_key, push_field, push_priority, invert, negate, convert, compare, connects, skip, Parts, parts_of, instruction_size, encode, parts_at, decode}
use Rattle.paper.specs.Blocks.{block_size, in_block, most_blocks, blocks_needed, blocks_of, total_of, layout}
use Rattle.paper.specs.Loading.{program}
use Rattle.paper.specs.Translating.{code_of}
use Rattle.paper.specs.Calls.{tree}

-- "width W, 1 to 128"
abbrev pub Width : ℕ → Type 0
Width w = (1 ≤ w) × (w ≤ 128)

-- of each element of a list
abbrev pub All : {A : Type 0} → (A → Type 0) → List A → Type 0
All P [] = Unit {0}
All P (a ∷ s) = P a × All P s

-- "two-byte operand, 16-byte constant", "operand W, 1 to 128", and a skip's landing, where so many instructions are left after it
abbrev pub InRange : ℕ → Instruction → Type 0
InRange left (push_bool b) = Unit {0}
InRange left (push_int n) = n < 2 ^ 128
InRange left (push_key k) = k < 2 ^ 16
InRange left (push_field f k) = k < 2 ^ 16
InRange left push_priority = Unit {0}
InRange left invert = Unit {0}
InRange left negate = Unit {0}
InRange left (convert k w) = Width w
InRange left (compare c) = Unit {0}
InRange left (connects o) = Unit {0}
InRange left (skip s) = (1 ≤ s.over) × (s.over ≤ left) × (s.over < 2 ^ 16)

-- each instruction of a sequence
abbrev pub Ranged : List Instruction → Type 0
Ranged [] = Unit {0}
Ranged (i ∷ code) = InRange (length code) i × Ranged code

-- by its parts
abbrev pub PartsBack : Type 0
PartsBack = (left : ℕ) (i : Instruction) → InRange left i → decode left (parts_of i) ≡ some i

-- by its bytes, wherever they stand
abbrev pub BytesBack : Type 0
BytesBack =
    (left : ℕ) (i : Instruction) → InRange left i → (s rest : List ℕ) (at : ℕ) → drop at s ≡ encode i ++ rest
    → decode left (parts_at s at) ≡ some i

-- And the other way: what is read as an instruction is written again as it stood, so that no second spelling is read.

-- by its parts
abbrev pub PartsAgain : Type 0
PartsAgain = (left : ℕ) (p : Parts) (i : Instruction) → decode left p ≡ some i → parts_of i ≡ p

-- by its bytes
pub record WrittenAgain (left : ℕ) (i : Instruction) (spelled : List ℕ) : Type 0 where
  pub ranged : InRange left i
  pub again : encode i ≡ spelled

abbrev pub BytesAgain : Type 0
BytesAgain =
    (s : List ℕ) (at : ℕ) → at + instruction_size ≤ length s → All (λ b. b < 256) (bytes_at s at instruction_size)
    → (left : ℕ) (i : Instruction) → decode left (parts_at s at) ≡ some i → WrittenAgain left i (bytes_at s at instruction_size)

-- the blocks of a sequence
pub record Written (keys : ℕ) (code : List Instruction) (blocks : List ℕ) : Type 0 where
  pub size : length blocks ≡ block_size * blocks_needed (length code)
  pub passes : layout keys blocks ≡ ok tt
  pub total : total_of blocks ≡ length code
  pub back : program blocks ≡ map some code

abbrev pub BlocksBack : Type 0
BlocksBack =
    (keys : ℕ) (code : List Instruction) → keys ≤ most_keys → 1 ≤ length code → length code ≤ most_blocks * in_block → Ranged code
    → Written keys code (blocks_of keys code)

-- a key list that passes
pub record Listed (ks : List Key) : Type 0 where
  pub few : length ks ≤ most_keys
  pub widths : All (λ k. Width k.width) ks

abbrev pub KeysListed : Type 0
KeysListed = (list : List ℕ) (ks : List Key) → keys list ≡ ok ks → Listed ks

-- every number of a tree is below 2^128
abbrev pub NumbersFit : Tree → Type 0
NumbersFit (truth at b) = Unit {0}
NumbersFit (number at n) = n.value < 2 ^ 128
NumbersFit (key at w) = Unit {0}
NumbersFit (field at w to f) = Unit {0}
NumbersFit (attribute at to f) = Unit {0}
NumbersFit (prefixed at o t) = NumbersFit t
NumbersFit (joined at o l r) = NumbersFit l × NumbersFit r
NumbersFit (compared at c l r) = NumbersFit l × NumbersFit r

-- of a text, by 6 and by what addresses are
abbrev pub NumbersRead : Type 0
NumbersRead = (text : List ℕ) (t : Tree) → tree text ≡ ok t → NumbersFit t

-- the code of a tree can be written
abbrev pub CodeInRange : Type 0
CodeInRange =
    (ks : List Key) → Listed ks → (t : Tree) → NumbersFit t → length (code_of ks t) < 2 ^ 16 → Ranged (code_of ks t)
