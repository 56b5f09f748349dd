-- 02 c: "name the first false part between top-level ";" signs, those outside parentheses, by its number from 1 and its root's place."
-- "A part's stretch runs from its first token to its last."
--
-- The parentheses of the text count, which its tree forgets: `(a;b);c` has two parts, and `a;b;c`, whose tree is the same, has three.
use Rattle.std.specs.Prelude.{ℕ, zero, suc, ◌+◌, Bool, true, false, not, cond, ◌&&◌, List, [], ◌∷◌, length, drop}
use Rattle.paper.specs.Answers.{Answer, ok, ◌>>=◌}
use Rattle.paper.specs.Numbers.{byte_at}
use Rattle.paper.specs.Tokens.{sequel, opening, closing, Tok, Token, taken, scan, tokens}
use Rattle.paper.specs.Keys.{is_none}
use Rattle.paper.specs.Grammar.{Tree, joins, is_sign, parsed}

-- "top-level ";" signs, those outside parentheses"

abbrev pub is_sequel : Token → Bool
is_sequel u = not (is_none (joins sequel u))

abbrev pub outside : ℕ → Bool
outside zero = true
outside (suc depth) = false

-- whether a token, before which so many parentheses are open, is such a sign
abbrev pub divides : ℕ → Token → Bool
divides depth u = is_sequel u && outside depth

-- a text that is read closes no more than are open: the first clause is never asked
abbrev pub one_less : ℕ → ℕ
one_less zero = zero
one_less (suc depth) = depth

-- how many are open after it
abbrev pub open_after : ℕ → Tok → ℕ
open_after depth k = cond (is_sign opening k) (suc depth) (cond (is_sign closing k) (one_less depth) depth)

-- "between"

-- a token before those of the first; there always is a first, so that the clause of none is never asked
abbrev pub in_front : Token → List (List Token) → List (List Token)
in_front u [] = (u ∷ []) ∷ []
in_front u (p ∷ ps) = (u ∷ p) ∷ ps

-- the tokens between such signs
unfoldable pub between : ℕ → List Token → List (List Token)
between depth [] = [] ∷ []
between depth (u ∷ us) =
    let rest = between (open_after depth u.tok) us in
    cond (divides depth u) ([] ∷ rest) (in_front u rest)

-- after a trailing ";" there are none, and no part
abbrev pub non_empty : List (List Token) → List (List Token)
non_empty [] = []
non_empty ([] ∷ ps) = non_empty ps
non_empty ((u ∷ us) ∷ ps) = (u ∷ us) ∷ non_empty ps

unfoldable pub top_level : List Token → List (List Token)
unfolding between
top_level ts = non_empty (between 0 ts)

-- "from its first token to its last"

-- bytes, from the first offset on and before the second
pub record Stretch : Type 0 where
  pub from : ℕ
  pub to : ℕ

-- the offset after the token that begins at an offset
unfoldable pub token_end : List ℕ → ℕ → ℕ
unfolding scan
token_end text at = suc at + taken (scan (byte_at text at) (drop (suc at) text))

abbrev pub last_of : Token → List Token → Token
last_of u [] = u
last_of u (v ∷ us) = last_of v us

-- a part has a token: the clause of none is never asked
unfoldable pub stretch_of : List ℕ → List Token → Stretch
unfolding token_end
stretch_of text [] = record { from = 0; to = 0 }
stretch_of text (u ∷ us) = record { from = u.at; to = token_end text (last_of u us).at }

-- "by its number from 1 and its root's place"

pub record Part : Type 0 where
  pub number : ℕ
  pub root : Tree
  pub stretch : Stretch

-- from a number on; each is read as if it were the whole text
unfoldable pub numbered : List ℕ → ℕ → List (List Token) → Answer (List Part)
unfolding parsed stretch_of
numbered text n [] = ok []
numbered text n (p ∷ ps) =
    parsed (length text) p
    >>= λ t. numbered text (suc n) ps
    >>= λ more. ok (record { number = n; root = t; stretch = stretch_of text p } ∷ more)

unfoldable pub parts : List ℕ → Answer (List Part)
unfolding tokens top_level numbered
parts text = tokens text >>= λ ts. numbered text 1 (top_level ts)

-- no text has more: each part has a token, a ";" stands between two, and there are at most 1,024 tokens
abbrev pub most_parts : ℕ
most_parts = 512
