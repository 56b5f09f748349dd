-- How the tokens of a text stand on a tape, a slice of numbers: a row of eight words for each token, which are its kind, its
-- first byte, the byte past its last, the four limbs of a numeral's number, and the radix of its base.
use Rattle.std.specs.Prelude.{ℕ, zero, suc, ◌+◌, ◌*◌, ◌-◌, ◌≤◌, ◌<◌, ◌≡◌, cond, List, [], ◌∷◌, length, get_or, eqb}
use Rattle.std.proofs.Math.Seq.{slice}
use Rattle.std.proofs.lemmas.List.Edits.{sets}
use Rattle.paper.specs.Tokens.{Sign, join, comparison, prefix, opening, closing, colons, sequel, implies, or_else, and_also, equal, unequal, greater, at_least, less, at_most, not_sign, minus_sign, Tok, word, numeral, string, sign, Token, radix, Literal, literal_in, plain, most_tokens}
use Rattle.number.specs.Values.{nested, limb}
use Rattle.number.specs.Bases.{base_meant, of_radix, literal_meant}
use Rattle.number.specs.declared.base.Literal as N

-- a text and the rows of its tokens
pub record Tape : Type 0 where
  pub text : List ℕ
  pub rows : List ℕ

abbrev pub tape_of : List ℕ → List ℕ → Tape
tape_of text rows = record { text = text; rows = rows }

-- rows

abbrev pub row_words : ℕ
row_words = 8

-- where the row of a token begins
abbrev pub row_at : ℕ → ℕ
row_at i = i * row_words

-- the slice has that row
abbrev pub Has : List ℕ → ℕ → Type 0
Has rows i = row_at i + row_words ≤ length rows

-- and a row for each token that a text can have: no token is without a byte, and there is a limit
abbrev pub Room : List ℕ → List ℕ → Type 0
Room text rows = (n : ℕ) → n ≤ most_tokens → n ≤ length text → n * row_words ≤ length rows

-- so many tokens have a row among a number of words, and no text has more, or there is no further row
pub record RoomFor (words n : ℕ) : Type 0 where
  pub few : n ≤ most_tokens
  pub has : n * row_words ≤ words
  pub most : n < most_tokens → words < (n + 1) * row_words

abbrev pub word_at : List ℕ → ℕ → ℕ → ℕ
word_at rows i k = get_or rows (row_at i + k) 0

abbrev pub kind_at : List ℕ → ℕ → ℕ
kind_at rows i = word_at rows i 0

abbrev pub start_at : List ℕ → ℕ → ℕ
start_at rows i = word_at rows i 1

abbrev pub end_at : List ℕ → ℕ → ℕ
end_at rows i = word_at rows i 2

abbrev pub number_at : List ℕ → ℕ → ℕ
number_at rows i = nested (word_at rows i 3) (word_at rows i 4) (word_at rows i 5) (word_at rows i 6)

abbrev pub literal_at : List ℕ → ℕ → Literal
literal_at rows i = literal_in (base_meant (of_radix (word_at rows i 7))) (number_at rows i)

abbrev pub row_of : ℕ → ℕ → ℕ → N.Literal → List ℕ
row_of kind from to l =
    let m = l.number in
    kind ∷ from ∷ to ∷ limb m 0 ∷ limb m 1 ∷ limb m 2 ∷ limb m 3 ∷ radix (base_meant l.base) ∷ []

-- the row of a token that is no numeral was stored
pub record PutPlain (before : List ℕ) (token kind from to : ℕ) (after : List ℕ) : Type 0 where
  pub literal : N.Literal
  pub zero : literal_meant literal ≡ plain 0
  pub stored : after ≡ sets before (row_at token) (row_of kind from to literal)

-- kinds

abbrev pub word_no : ℕ
word_no = 0

abbrev pub numeral_no : ℕ
numeral_no = 1

abbrev pub string_no : ℕ
string_no = 2

-- the signs have the numbers after these
abbrev pub sign_no : Sign → ℕ
sign_no (join sequel) = 3
sign_no (join implies) = 4
sign_no (join or_else) = 5
sign_no (join and_also) = 6
sign_no (comparison equal) = 7
sign_no (comparison unequal) = 8
sign_no (comparison greater) = 9
sign_no (comparison at_least) = 10
sign_no (comparison less) = 11
sign_no (comparison at_most) = 12
sign_no (prefix not_sign) = 13
sign_no (prefix minus_sign) = 14
sign_no opening = 15
sign_no closing = 16
sign_no colons = 17

abbrev pub first_sign : ℕ
first_sign = sign_no (join sequel)

abbrev pub last_sign : ℕ
last_sign = sign_no colons

-- and among them joins, comparisons and prefix operators each have a range

abbrev pub first_join : ℕ
first_join = sign_no (join sequel)

abbrev pub last_join : ℕ
last_join = sign_no (join and_also)

abbrev pub first_comparison : ℕ
first_comparison = sign_no (comparison equal)

abbrev pub last_comparison : ℕ
last_comparison = sign_no (comparison at_most)

abbrev pub first_prefix : ℕ
first_prefix = sign_no (prefix not_sign)

abbrev pub last_prefix : ℕ
last_prefix = sign_no (prefix minus_sign)

-- of a number from the first sign's to the last's
abbrev pub sign_of : ℕ → Sign
sign_of n =
    cond (eqb n 3) (join sequel)
    (cond (eqb n 4) (join implies)
    (cond (eqb n 5) (join or_else)
    (cond (eqb n 6) (join and_also)
    (cond (eqb n 7) (comparison equal)
    (cond (eqb n 8) (comparison unequal)
    (cond (eqb n 9) (comparison greater)
    (cond (eqb n 10) (comparison at_least)
    (cond (eqb n 11) (comparison less)
    (cond (eqb n 12) (comparison at_most)
    (cond (eqb n 13) (prefix not_sign)
    (cond (eqb n 14) (prefix minus_sign)
    (cond (eqb n 15) opening
    (cond (eqb n 16) closing colons)))))))))))))

-- tokens

-- a token by its kind, from a byte up to another, with a numeral's literal
abbrev pub tok_of : List ℕ → ℕ → ℕ → ℕ → Literal → Tok
tok_of text kind from to literal =
    cond (eqb kind word_no) (word (slice from to text))
    (cond (eqb kind numeral_no) (numeral literal)
    (cond (eqb kind string_no) (string (slice (from + 1) (to - 1) text)) (sign (sign_of kind))))

abbrev pub tok_on : Tape → ℕ → Tok
tok_on T i = tok_of T.text (kind_at T.rows i) (start_at T.rows i) (end_at T.rows i) (literal_at T.rows i)

abbrev pub token_on : Tape → ℕ → Token
token_on T i = record { at = start_at T.rows i; tok = tok_on T i }

-- n tokens, from the one of index i on
unfoldable pub tokens_on : Tape → ℕ → ℕ → List Token
tokens_on T i zero = []
tokens_on T i (suc n) = token_on T i ∷ tokens_on T (i + 1) n
