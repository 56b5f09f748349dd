-- The check as the code holds it, and a block after which it is stored.
use Rattle.std.specs.Prelude.{ℕ, ◌+◌, ◌*◌, ◌/◌, ◌%◌, ◌≤◌, ◌≡◌, List, [], ◌∷◌, length, get_or, drop}
use Rattle.paper.specs.Blocks as P
use Rattle.paper.specs.Blocks.{sums_from, sums_of}
use Rattle.blocks.specs.declared.sums.Sums.{Sums}

abbrev pub sums_meant : Sums → P.Sums
sums_meant s = record { first = s.first; second = s.second }

-- a number is the word at an offset with its bytes the other way round
abbrev pub TurnedWord : List ℕ → ℕ → ℕ → Type 0
TurnedWord s i w = (w ≡ get_or s i 0 + get_or s (i + 1) 0 * 256) × (w ≤ 65535)

-- The words before byte i are added, turned round, to sums that are not reduced. What is meant is these sums times 256, since a word that
-- is turned round and multiplied by 256 is the word, modulo 65,535. The sums are those of at most 254 words.
pub record Added (s : List ℕ) (i first second : ℕ) : Type 0 where
  pub inside : i ≤ length s
  pub first_small : 2 * first ≤ 65535 * i
  pub second_small : 2 * second ≤ 254 * 65535 * i
  pub rest : sums_from (256 * first % 65535) (256 * second % 65535) (drop i s) ≡ sums_of s

-- the check's bytes
abbrev pub check_spelled : Sums → List ℕ
check_spelled c = (c.second / 256 % 256) ∷ (c.second % 256) ∷ (c.first / 256 % 256) ∷ (c.first % 256) ∷ []
