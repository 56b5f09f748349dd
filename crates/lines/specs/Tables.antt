-- A table of user numbers, in eight bytes each.
use Rattle.std.specs.Prelude.{ℕ, zero, suc, ◌+◌, ◌*◌, cond, List, [], ◌∷◌, ◌++◌, ltb}
use Rattle.paper.specs.Numbers.{number_at}

-- how many numbers are lent of so many: one more than a table may have is as good as any number more
abbrev pub kept_of : ℕ → ℕ
kept_of count = cond (ltb count 17) count 17

-- the n numbers from an offset on
abbrev pub numbers_from : List ℕ → ℕ → ℕ → List ℕ
numbers_from s at zero = []
numbers_from s at (suc n) = numbers_from s at n ++ (number_at s (at + 8 * n) 8 ∷ [])
