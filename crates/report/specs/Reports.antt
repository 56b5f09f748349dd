-- What is told of a file: the answer to a call of `count` with its bytes, and the numbers of its parts.
use Rattle.std.specs.Prelude.{ℕ, ◌≡◌, List, Result, Err, Ok}
use Rattle.paper.specs.declared.Refusal.{Refusal}
use Rattle.paper.specs.declared.Counted.{Counted}
use Rattle.paper.specs.Counting.{count_answer, count_numbers, counting_says}

-- numbers behind a refusal are not told
abbrev pub Noted : List ℕ → List ℕ → List ℕ → Result Counted Refusal → List ℕ → List ℕ → Type 0
Noted text list file (Ok t) before after = after ≡ count_numbers text list file before
Noted text list file (Err v) before after = Unit {0}

pub record Reports (text list file : List ℕ) (r : Result Counted Refusal) (before after : List ℕ) : Type 0 where
  pub says : counting_says r ≡ count_answer text list file
  pub notes : Noted text list file r before after
