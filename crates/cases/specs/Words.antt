-- Bytes, as words spell them, and the room that they are put into.
use Rattle.std.specs.Prelude.{ℕ, zero, suc, ◌+◌, ◌*◌, ◌-◌, ◌/◌, ◌%◌, ◌≡◌, cond, List, [], ◌∷◌, ◌++◌, length, take, eqb, ltb}
use Rattle.std.proofs.lemmas.List.Edits.{sets}
use Rattle.paper.specs.Numbers.{byte_at, bytes_at}
use Rattle.paper.specs.Tokens.{digit_of}
use Rattle.cases.specs.Places.{stop_from}

-- decimal digits after a number, of which six are kept
abbrev pub six_digits : ℕ → List ℕ → ℕ
six_digits n [] = n
six_digits n (b ∷ s) = six_digits (n % 100000 * 10 + digit_of b) s

-- the number that stands at an offset, before a blank or a star
abbrev pub number_in : List ℕ → ℕ → ℕ
number_in s at = six_digits 0 (bytes_at s at (stop_from s at 42 - at))

-- the byte that stands at an offset: a character, or two hexadecimal digits
abbrev pub value_at : ℕ → List ℕ → ℕ → ℕ
value_at width s at = cond (eqb width 1) (byte_at s at) ((digit_of (byte_at s at) * 16 + digit_of (byte_at s (at + 1))) % 256)

-- n of them, one after another
abbrev pub values_from : ℕ → List ℕ → ℕ → ℕ → List ℕ
values_from width s at zero = []
values_from width s at (suc n) = value_at width s at ∷ values_from width s (at + width) n

-- the bytes that stand between two offsets
abbrev pub spelled : ℕ → List ℕ → ℕ → ℕ → List ℕ
spelled width s from to = values_from width s from ((to - from + (width - 1)) / width)

-- how many quotes stand before the bytes of a word
abbrev pub quotes_at : List ℕ → ℕ → ℕ
quotes_at s at = cond (eqb (byte_at s at) 39) 1 0

-- a word without a count, up to an offset: after a quote each byte is a character, else two hexadecimal digits
abbrev pub quoted : List ℕ → ℕ → ℕ → List ℕ
quoted s from to = spelled (2 - quotes_at s from) s (from + quotes_at s from) to

abbrev pub copies : ℕ → List ℕ → List ℕ
copies zero bytes = []
copies (suc n) bytes = bytes ++ copies n bytes

-- a word, after its count and a star if it has one
abbrev pub word_bytes : List ℕ → ℕ → ℕ → List ℕ
word_bytes s from to =
    let star = stop_from s from 42 in
    cond (eqb (byte_at s star) 42) (copies (number_in s from) (quoted s (star + 1) to)) (copies 1 (quoted s from to))

-- where the next word may stand: after a blank, or in a line that begins with a blank; else past the end
abbrev pub next_word : List ℕ → ℕ → ℕ
next_word s end = cond (eqb (byte_at s end) 10) (cond (eqb (byte_at s (end + 1)) 32) (end + 1) (length s + 1)) (end + 1)

-- the words from an offset on, of which there are no more than bytes
abbrev pub words_from : ℕ → List ℕ → ℕ → List ℕ
words_from zero s at = []
words_from (suc most) s at =
    let end = stop_from s at 32 in
    let rest = words_from most s (next_word s end) in
    cond (ltb at (length s)) (word_bytes s at end ++ rest) []

-- the bytes of all words of a line and of the lines that go on with it
abbrev pub line_bytes : List ℕ → ℕ → List ℕ
line_bytes s from = words_from (length s - from) s from

-- bytes put into a room from an offset on, as many as there is room for, and the offset after them
pub record Put (room : List ℕ) (at : ℕ) (new after : List ℕ) (end : ℕ) : Type 0 where
  pub holds : after ≡ sets room at (take (length room - at) new)
  pub next : end ≡ at + length (take (length room - at) new)
