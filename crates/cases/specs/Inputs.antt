-- The inputs of a call: each is what the last line of its kind gives.
use Rattle.std.specs.Prelude.{ℕ, ◌+◌, Bool, true, false, not, cond, ◌&&◌, List, [], ◌∷◌, length, eqb, ltb, leb, Option, Some}
use Rattle.std.specs.Option.{option_eq}
use Rattle.paper.specs.Numbers.{byte_at}
use Rattle.cases.specs.Places.{stop_from, name_end}
use Rattle.cases.specs.declared.names.Command.{Command}
use Rattle.cases.specs.declared.names.Command.TheVariants.{Text}
use Rattle.cases.specs.Names.{command_at, same_command}
use Rattle.cases.specs.Words.{spelled, line_bytes}

-- which input the line at an offset gives: a text after a colon, or that of its name
abbrev pub input_at : List ℕ → ℕ → Option Command
input_at file at = cond (eqb (byte_at file (name_end file at)) 58) (Some Text) (command_at file at)

-- where lines begin: at the first byte, and after each line's end
abbrev pub heads : ℕ → Bool → List ℕ → List ℕ
heads at begins [] = []
heads at true (b ∷ s) = at ∷ heads (at + 1) (not (ltb 10 b)) s
heads at false (b ∷ s) = heads (at + 1) (not (ltb 10 b)) s

-- the last of some offsets that passes a test
abbrev pub last_of : (ℕ → Bool) → ℕ → List ℕ → ℕ
last_of p none [] = none
last_of p none (at ∷ ats) = last_of p (cond (p at) at none) ats

abbrev pub gives : List ℕ → ℕ → Command → ℕ → Bool
gives file to input at = leb at to && option_eq same_command (input_at file at) (Some input)

-- where the last line up to an offset begins that gives an input; the file's end where there is none
abbrev pub last_line : List ℕ → ℕ → Command → ℕ
last_line file to input = last_of (gives file to input) (length file) (heads 0 true file)

-- what it gives: what stands after a colon as it is, or the bytes of words
abbrev pub input_bytes : List ℕ → ℕ → Command → List ℕ
input_bytes file at input =
    let end = name_end file (last_line file at input) in
    cond (eqb (byte_at file end) 58) (spelled 1 file (end + 2) (stop_from file end 10)) (line_bytes file end)
