-- The codes of parts in a scratch: each as it is joined to others, one after the other, with the number of its first instruction beside it.
use Rattle.std.specs.Prelude.{ℕ, zero, suc, ◌+◌, ◌*◌, ◌≤◌, ◌<◌, ◌≡◌, List, [], ◌∷◌, length, get_or}
use Rattle.paper.specs.Numbers.{bytes_at}
use Rattle.paper.specs.Code.{Instruction, instruction_size}
use Rattle.paper.specs.Translating.{code_of}
use Rattle.paper.specs.Comparing.{written, as_joined}
use Rattle.keys.specs.Says.{keys_in}
use Rattle.trees.specs.Standing.{tree_at}
use Rattle.parts.specs.Rows.{root_at, each}

-- n records, from the one of index i on, where it is known what each is
abbrev pub records_by : (ℕ → List ℕ) → ℕ → ℕ → List (List ℕ)
records_by has i zero = []
records_by has i (suc n) = has i ∷ records_by has (i + 1) n

-- of a scratch, where they stand without gaps
abbrev pub record_at : List ℕ → ℕ → List ℕ
record_at code i = bytes_at code (instruction_size * i) instruction_size

abbrev pub code_from : List ℕ → ℕ → ℕ → List (List ℕ)
code_from code i n = records_by (record_at code) i n

-- the number of a part's first instruction
abbrev pub start_at : List ℕ → ℕ → ℕ
start_at starts k = get_or starts k 0

-- part k has this code, and stands there as it is joined, up to the next
pub record Stood (code starts : List ℕ) (k : ℕ) (c : List Instruction) : Type 0 where
  pub next : start_at starts (k + 1) ≡ start_at starts k + length (as_joined c)
  pub inside : instruction_size * start_at starts (k + 1) ≤ length code
  pub reads : code_from code (start_at starts k) (length (as_joined c)) ≡ written (as_joined c)

-- so do n parts, whose codes are these by their index
abbrev pub Stand : List ℕ → List ℕ → ℕ → (ℕ → List Instruction) → Type 0
Stand code starts n cs = (k : ℕ) → k < n → Stood code starts k (cs k)

-- the code of the part in row k
abbrev pub code_at : List ℕ → List ℕ → List ℕ → List ℕ → ℕ → List Instruction
code_at text list nodes rows k = code_of (keys_in list) (tree_at text nodes (root_at rows k))

-- how many instructions codes have, each as it is joined
abbrev pub size_all : List (List Instruction) → ℕ
size_all [] = 0
size_all (c ∷ cs) = length (as_joined c) + size_all cs

-- there is room for the codes of n rows
abbrev pub Roomy : List ℕ → List ℕ → List ℕ → List ℕ → ℕ → List ℕ → Type 0
Roomy text list nodes rows n code = instruction_size * size_all (each (code_at text list nodes rows) 0 n) ≤ length code
