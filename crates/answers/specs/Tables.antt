-- The third input of a request to draft: how many numbers the table has in two bytes, the numbers in eight bytes each, and the buffer.
use Rattle.std.specs.Prelude.{ℕ, ◌+◌, ◌*◌, cond, List, ◌++◌, length, take, drop, ltb}
use Rattle.paper.specs.Numbers.{number_at}
use Rattle.paper.specs.Drafting.{draft_buffer}
use Rattle.lines.specs.Tables.{kept_of, numbers_from}

abbrev pub count_in : List ℕ → ℕ
count_in third = number_at third 0 2

-- where the buffer begins
abbrev pub table_end : List ℕ → ℕ
table_end third = 2 + 8 * count_in third

abbrev pub table_in : List ℕ → List ℕ
table_in third = numbers_from third 2 (kept_of (count_in third))

-- what is left where the buffer begins at an offset
abbrev pub drafted_from : ℕ → List ℕ → List ℕ → List ℕ → List ℕ → List ℕ
drafted_from end contract table names third = take end third ++ draft_buffer contract table names (drop end third)

-- what the call leaves in it; nothing is written to an input that is shorter than its table
abbrev pub after_draft : List ℕ → List ℕ → List ℕ → List ℕ
after_draft contract names third =
    cond (ltb (length third) 2) third
    (cond (ltb (length third) (table_end third)) third (drafted_from (table_end third) contract (table_in third) names third))
