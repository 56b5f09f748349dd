-- Runs of bytes, by the tests of the paper's definitions.
use Rattle.std.specs.Prelude.{ℕ, ◌+◌, ◌≤◌, ◌≡◌, Bool, not, ◌||◌, List, length, drop, eqb, ltb}
use Rattle.paper.specs.Tokens.{is_id_byte, is, digit_of, span}
use Rattle.spelling.specs.declared.runs.Run.{Run}
use Rattle.spelling.specs.declared.runs.Run.TheVariants.{Name, Line, Quoted, Digits}

abbrev pub in_run : Run → ℕ → Bool
in_run Name = is_id_byte
in_run Line = λ b. not (eqb b 10)
in_run Quoted = λ b. not (is "'" b || eqb b 10)
in_run (Digits base) = λ b. ltb (digit_of b) base

-- how many bytes of a line are left at an offset, and how many are looked through together for its end

abbrev pub line_more : List ℕ → ℕ → ℕ
line_more text at = span (in_run Line) (drop at text)

abbrev pub stride : ℕ
stride = 16

-- n bytes after an offset, none of them past the text's end
pub record EndsAt (text : List ℕ) (at n end : ℕ) : Type 0 where
  pub far : end ≡ at + n
  pub inside : end ≤ length text
