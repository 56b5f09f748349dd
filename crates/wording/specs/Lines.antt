-- The line of a place in a text, how it is shown, and how much of it is marked.
use Rattle.std.specs.Prelude.{ℕ, suc, ◌+◌, ◌-◌, ◌≤◌, min, max, ◌≡◌, ◌⊎◌, cond, ◌&&◌, List, [], ◌∷◌, length, get_or, take, drop, eqb, ltb, leb}
use Rattle.paper.specs.Tokens.{span}
use Rattle.spelling.specs.Runs.{in_run, EndsAt}
use Rattle.spelling.specs.declared.runs.Run.TheVariants.{Line as LineRun}
use Rattle.wording.specs.declared.caret.Line.{Line}
use Rattle.wording.specs.declared.caret.Stretch.{Stretch}

-- an LF closes a line
abbrev pub breaks_at : ℕ → ℕ
breaks_at b = cond (eqb b 10) 1 0

-- how many lines are closed in these bytes
unfoldable pub breaks : List ℕ → ℕ
breaks [] = 0
breaks (b ∷ s) = breaks_at b + breaks s

-- a place at the text's end is one past the last byte of the last line, which an LF may close
abbrev pub seen_at : List ℕ → ℕ → ℕ
seen_at text at = cond (ltb at (length text)) at (length text - breaks_at (get_or text (length text - 1) 0))

-- a line starts with the text or after an LF, goes on to the next LF or to the text's end, and is counted from 1
pub record LineOf (text : List ℕ) (at : ℕ) (line : Line) : Type 0 where
  pub starts : (line.from ≡ 0) ⊎ (get_or text (line.from - 1) 0 ≡ 10)
  pub ends : EndsAt text line.from (span (in_run LineRun) (drop line.from text)) line.to
  pub before : line.from ≤ at
  pub past : at ≤ line.to
  pub counted : line.number ≡ suc (breaks (take line.from text))

-- at most 100 columns of a line, the place among them or directly after them
pub record Window (line : Line) (at : ℕ) (shown : Stretch) : Type 0 where
  pub inside : line.from ≤ shown.from
  pub before : shown.from ≤ at
  pub past : at ≤ shown.to
  pub within : shown.to ≤ line.to
  pub narrow : shown.to ≤ shown.from + 100

-- a tab as a blank, and a byte that does not print as '?'
abbrev pub shown_as : ℕ → ℕ
shown_as b = cond (eqb b 9) 32 (cond (leb 32 b && leb b 126) b 63)

-- how many columns of a line are marked, from an offset up to another or to the end of what is shown; a place has one
abbrev pub carets : ℕ → ℕ → ℕ → ℕ
carets from to end = max 1 (min to end - from)
