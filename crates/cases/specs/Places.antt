-- Places in the file of cases, and what stands there.
use Rattle.std.specs.Prelude.{ℕ, ◌+◌, ◌-◌, ◌≤◌, ◌≡◌, cond, List, [], length, drop, eqb, ltb, leb}
use Rattle.paper.specs.Numbers.{byte_at, bytes_at}
use Rattle.paper.specs.Tokens.{span}

-- the first byte from an offset on that is at most a limit, or the end
abbrev pub stop_from : List ℕ → ℕ → ℕ → ℕ
stop_from s at limit = at + span (ltb limit) (drop at s)

pub record StopsAt (s : List ℕ) (at limit end : ℕ) : Type 0 where
  pub here : end ≡ stop_from s at limit
  pub onward : at ≤ end
  pub inside : end ≤ length s

-- the bytes from an offset up to another; none where these are no offsets of a part
abbrev pub part_of : List ℕ → ℕ → ℕ → List ℕ
part_of s from to = cond (leb to (length s)) (bytes_at s from (to - from)) []

-- the end of a line's command: its letters are above a colon
abbrev pub name_end : List ℕ → ℕ → ℕ
name_end file at = stop_from file at 58

-- the rest of the line, after a blank, or a colon and a blank
abbrev pub rest_of : List ℕ → ℕ → List ℕ
rest_of file at =
    let name = name_end file at in
    part_of file (name + cond (eqb (byte_at file name) 58) 2 1) (stop_from file name 10)
