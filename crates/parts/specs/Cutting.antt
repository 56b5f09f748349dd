-- The stretches of a text's parts, by the rows of its tokens on a tape: what the paper says of tokens, said of their kinds.
use Rattle.std.specs.Prelude.{ℕ, zero, suc, ◌+◌, ◌*◌, ◌-◌, ◌≤◌, ◌≡◌, Bool, cond, ◌&&◌, List, [], ◌∷◌, ◌++◌, eqb}
use Rattle.paper.specs.Tokens.{join, sequel, opening, closing}
use Rattle.paper.specs.Parts.{Stretch}
use Rattle.tokens.specs.Tape.{kind_at, start_at, end_at, sign_no}
use Rattle.parts.specs.Rows.{stretches_on}

-- whether a token of a kind, before which so many parentheses are open, divides two parts
abbrev pub kind_divides : ℕ → ℕ → Bool
kind_divides depth kind = eqb kind (sign_no (join sequel)) && eqb depth 0

-- how many are open after it
abbrev pub kind_opens : ℕ → ℕ → ℕ
kind_opens depth kind = cond (eqb kind (sign_no opening)) (depth + 1) (cond (eqb kind (sign_no closing)) (depth - 1) depth)

-- from the token of one index to that before another, if there is any
abbrev pub stretched : List ℕ → ℕ → ℕ → List Stretch
stretched tape first past = cond (eqb first past) [] (record { from = start_at tape first; to = end_at tape (past - 1) } ∷ [])

-- of n tokens from index i on, where so many parentheses are open, in a part whose first token has the index `first`
unfoldable pub stretches : List ℕ → ℕ → ℕ → ℕ → ℕ → List Stretch
stretches tape first depth i zero = stretched tape first i
stretches tape first depth i (suc n) =
    let kind = kind_at tape i in
    let ends = stretched tape first i ++ stretches tape (i + 1) depth (i + 1) n in
    let goes_on = stretches tape first (kind_opens depth kind) (i + 1) n in
    cond (kind_divides depth kind) ends goes_on

-- m parts stand in the rows, where n stood before and one ended; each had a token, and a ";" stood between two
pub record Closed (tape before after : List ℕ) (first past n m : ℕ) : Type 0 where
  pub says : stretches_on after m ≡ stretches_on before n ++ stretched tape first past
  pub few : 2 * m ≤ past + 1
