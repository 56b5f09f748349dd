-- What the pass for texts on file does at each piece, and what it answers.
use Rattle.std.specs.Prelude.{ℕ, ◌+◌, ◌≡◌, cond, List, ◌++◌, length, take, eqb, Result, Ok, Err}
use Rattle.paper.specs.declared.Refusal.{Refusal}
use Rattle.std.proofs.lemmas.List.Edits.{sets}
use Rattle.paper.specs.Answers.{ok, ◌>>=◌, says}
use Rattle.paper.specs.Tokens.{bytes, most_tokens}
use Rattle.paper.specs.Print.{numeral_in}
use Rattle.paper.specs.Fixing.{old_tokens, fixed}
use Rattle.tokens.specs.declared.found.Lexeme.{Lexeme}
use Rattle.tokens.specs.declared.found.Lexeme.TheVariants as F
use Rattle.tokens.specs.declared.fixing.Step.{Step}
use Rattle.tokens.specs.declared.fixing.Step.TheVariants as S

-- how it goes on after n tokens, by what is found, or the number of a refusal
abbrev pub step_for : Lexeme → ℕ → Result Step ℕ
step_for (F.Blank end) n = Ok (S.Copied end n)
step_for (F.Token kind end) n = cond (eqb n most_tokens) (Err 7) (Ok (S.Copied end (n + 1)))
step_for (F.Octal end) n = cond (eqb n most_tokens) (Err 7) (Ok (S.InHex end (n + 1)))
step_for F.OctalTooLarge n = Err 6
step_for F.NoToken n = Err 5
step_for F.TooLarge n = Err 6

-- what it writes for an octal numeral
abbrev pub hex_numeral : ℕ → List ℕ
hex_numeral v = bytes "0x" ++ numeral_in 16 v

-- s was written at an offset, and r is the offset after it
pub record Put (before : List ℕ) (at : ℕ) (s after : List ℕ) (r : ℕ) : Type 0 where
  pub stored : after ≡ sets before at s
  pub ends : r ≡ at + length s

-- where it counts, what it was to write stands first
abbrev pub StandsFirst : List ℕ → List ℕ → Result ℕ Refusal → Type 0
StandsFirst s out (Ok n) = take n out ≡ s
StandsFirst s out (Err v) = Unit {0}

pub record Fixes (text out : List ℕ) (r : Result ℕ Refusal) : Type 0 where
  pub says : says r ≡ (old_tokens text >>= λ _. ok (length (fixed text)))
  pub holds : StandsFirst (fixed text) out r
