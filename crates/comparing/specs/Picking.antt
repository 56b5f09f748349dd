-- Which of the parts that are not yet used comes last.
use Rattle.std.specs.Prelude.{ℕ, zero, suc, ◌-◌, ◌<◌, ◌≡◌, Bool, false, cond, not, ◌&&◌, List, [], ◌∷◌, length, get_or, drop, leb, Option, Some, None}
use Rattle.paper.specs.Code.{Instruction}
use Rattle.paper.specs.Comparing.{written, same_records, as_joined}

-- the first index that passes a test, of n from k on; the one after them, if none does
abbrev pub first_from : (ℕ → Bool) → ℕ → ℕ → ℕ
first_from test k zero = k
first_from test k (suc n) = cond (test k) k (first_from test (suc k) n)

-- what was found, where the first of n is this
abbrev pub IsFirst : ℕ → ℕ → Option ℕ → Type 0
IsFirst n first (Some k) = (first ≡ k) × (k < n)
IsFirst n first None = first ≡ n

-- whether each part is used
abbrev pub is_free : List Bool → ℕ → Bool
is_free used k = not (get_or used k false)

-- of n codes from index k on, those that pass
abbrev pub passing : (ℕ → Bool) → (ℕ → List Instruction) → ℕ → ℕ → List (List Instruction)
passing test cs k zero = []
passing test cs k (suc n) = cond (test k) (cs k ∷ passing test cs (suc k) n) (passing test cs (suc k) n)

-- records end with others
abbrev pub ends_with : List (List ℕ) → List (List ℕ) → Bool
ends_with ending s = leb (length ending) (length s) && same_records (drop (length s - length ending) s) ending

-- part k, of this code, is free, and comes last
abbrev pub last_free : List Bool → ℕ → List Instruction → List (List ℕ) → Bool
last_free used k c s = is_free used k && ends_with (written (as_joined c)) s

abbrev pub comes_last : List Bool → (ℕ → List Instruction) → List (List ℕ) → ℕ → Bool
comes_last used cs s k = last_free used k (cs k) s
