-- What the layout's check answers, in the paper's words.
use Rattle.std.specs.Prelude.{ℕ, ◌+◌, ◌*◌, ◌-◌, Bool, ◌&&◌, List, take, eqb}
use Rattle.paper.specs.Answers.{Answer, ok, ◌>>=◌}
use Rattle.paper.specs.Numbers.{number_at, bytes_at}
use Rattle.paper.specs.Tokens.{same_bytes}
use Rattle.paper.specs.Keys.{all_zero}
use Rattle.paper.specs.Code.{instruction_size}
use Rattle.paper.specs.Blocks.{count_ok, check_of, total_of, layout}

-- the layout's answer, with the total count where it passes
abbrev pub laid_out : ℕ → List ℕ → Answer ℕ
laid_out keys blocks = layout keys blocks >>= λ _. ok (total_of blocks)

-- the paper's `block_ok`, of a block by itself and the total that it must name
abbrev pub block_right : ℕ → ℕ → ℕ → ℕ → List ℕ → Bool
block_right keys total k later b =
    eqb (number_at b 0 2) k
    && count_ok later (number_at b 2 2)
    && all_zero (bytes_at b (4 + instruction_size * number_at b 2 2) (500 - instruction_size * number_at b 2 2))
    && eqb (number_at b 504 2) total
    && eqb (number_at b 506 2) keys
    && same_bytes (bytes_at b 508 4) (check_of (take 508 b))
