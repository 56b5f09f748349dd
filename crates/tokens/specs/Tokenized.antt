-- What `tokenize` answers, read with the tape as it leaves it.
use Rattle.std.specs.Prelude.{ℕ, ◌*◌, ◌≤◌, ◌<◌, ◌≡◌, cond, length, eqb, Result, Ok, Err}
use Rattle.paper.specs.declared.Place.TheVariants.{Text}
use Rattle.paper.specs.Answers.{ok, refused_by}
use Rattle.paper.specs.Tokens.{tokens, most_tokens}
use Rattle.paper.specs.Parts.{token_end}
use Rattle.tokens.specs.Scanned.{Spans}
use Rattle.tokens.specs.Tape.{Tape, row_words, Room, kind_at, start_at, end_at, tokens_on}
use Rattle.tokens.specs.declared.Stop.{Stop}
use Rattle.tokens.specs.declared.Stop.TheVariants.{Refused, Over}

-- so many tokens, which are the text's, or the text's refusal; or there is not a row for each token that the text could have
abbrev pub CutSays : Tape → Result ℕ Stop → Type 0
CutSays T (Ok n) = ok (tokens_on T 0 n) ≡ tokens T.text
CutSays T (Err (Refused v)) = refused_by v ≡ tokens T.text
CutSays T (Err Over) = Room T.text T.rows → ⊥

-- a refusal of this number at an offset of the text
abbrev pub refused_there : ℕ → ℕ → Stop
refused_there number at = Refused (record { number = number; place = Text at })

-- what is answered at an octal numeral after n tokens
abbrev pub octal_refusal : ℕ → ℕ → Stop
octal_refusal n at = refused_there (cond (eqb n most_tokens) 7 22) at

-- and at a token after n, where there is no row for it
abbrev pub row_refusal : ℕ → ℕ → Stop
row_refusal n at = cond (eqb n most_tokens) (refused_there 7 at) Over

-- the token of an index stands in the text
abbrev pub SpansOn : Tape → ℕ → Type 0
SpansOn T i = Spans T.text (kind_at T.rows i) (start_at T.rows i) (end_at T.rows i)

-- it ends where the paper says
abbrev pub EndsOn : Tape → ℕ → Type 0
EndsOn T i = end_at T.rows i ≡ token_end T.text (start_at T.rows i)

-- n tokens, as they come from a text: no more than its bytes, and than the limit
pub record CutInto (T : Tape) (n : ℕ) : Type 0 where
  pub few : n ≤ most_tokens
  pub short : n ≤ length T.text
  pub spans : (i : ℕ) → i < n → SpansOn T i
  pub ends : (i : ℕ) → i < n → EndsOn T i

-- and on a tape: each has its row
pub record Sound (T : Tape) (n : ℕ) : Type 0 where
  pub cut : CutInto T n
  pub has : n * row_words ≤ length T.rows

abbrev pub Placed : Tape → Result ℕ Stop → Type 0
Placed T (Ok n) = Sound T n
Placed T (Err s) = Unit {0}
