-- What the crate's enums say, in the paper's words.
use Rattle.std.specs.Prelude.{ℕ, ◌+◌, ◌-◌, ◌/◌, ◌%◌, ◌^◌, ◌≤◌, ◌<◌, ◌≡◌, true, false, cond, List, length, drop, eqb, ltb}
use Rattle.paper.specs.Tokens.{hex, Notation, based, octal, Literal, literal_in, Scan, blank, token, sign, octal_numeral, no_token, too_large, is_id_start, word_more, two_bytes, scan_two, scan_word, scan_sign}
use Rattle.spelling.specs.declared.numerals.Notation as N
use Rattle.spelling.specs.declared.numerals.Notation.TheVariants as S
use Rattle.tokens.specs.Tape.{word_no, numeral_no, string_no, first_sign, last_sign, sign_of, tok_of}
use Rattle.tokens.specs.declared.found.Lexeme.{Lexeme}
use Rattle.tokens.specs.declared.found.Lexeme.TheVariants as F

-- how a token may stand in a text: a string has both its quotes
pub record Spans (text : List ℕ) (kind from to : ℕ) : Type 0 where
  pub known : kind ≤ last_sign
  pub taken : from < to
  pub inside : to ≤ length text
  pub quoted : kind ≡ string_no → from + 2 ≤ to

-- how a numeral is found whose number fits, with which literal, and how one is found that does not fit

abbrev pub fits_as : N.Notation → ℕ → Lexeme
fits_as (S.Based base) end = F.Token numeral_no end
fits_as S.Octal end = F.Octal end

abbrev pub literal_for : Notation → ℕ → Literal
literal_for (based base) v = literal_in base v
literal_for octal v = literal_in hex v

abbrev pub too_large_as : N.Notation → Lexeme
too_large_as (S.Based base) = F.TooLarge
too_large_as S.Octal = F.OctalTooLarge

-- an octal numeral of a number that fits, and one of a number that does not

pub record OctalFits (literal : Literal) (more : ℕ) (scanned : Scan) : Type 0 where
  pub is : octal_numeral literal.value more ≡ scanned
  pub fits : ltb literal.value (2 ^ 128) ≡ true

pub record OctalLarge (scanned : Scan) : Type 0 where
  pub number : ℕ
  pub more : ℕ
  pub is : octal_numeral number more ≡ scanned
  pub large : ltb number (2 ^ 128) ≡ false

abbrev pub Says : List ℕ → ℕ → Literal → Scan → Lexeme → Type 0
Says text at literal scanned (F.Blank end) = blank (end - (at + 1)) ≡ scanned
Says text at literal scanned (F.Token kind end) = token (tok_of text kind at end literal) (end - (at + 1)) ≡ scanned
Says text at literal scanned (F.Octal end) = OctalFits literal (end - (at + 1)) scanned
Says text at literal scanned F.OctalTooLarge = OctalLarge scanned
Says text at literal scanned F.NoToken = no_token ≡ scanned
Says text at literal scanned F.TooLarge = too_large ≡ scanned

abbrev pub Ends : List ℕ → ℕ → Lexeme → Type 0
Ends text at (F.Blank end) = (at < end) × (end ≤ length text)
Ends text at (F.Token kind end) = Spans text kind at end
Ends text at (F.Octal end) = (at < end) × (end ≤ length text)
Ends text at F.OctalTooLarge = Unit {0}
Ends text at F.NoToken = Unit {0}
Ends text at F.TooLarge = Unit {0}

-- what stands at a byte is what the paper scans there
pub record Stands (text : List ℕ) (at : ℕ) (literal : Literal) (scanned : Scan) (found : Lexeme) : Type 0 where
  pub says : Says text at literal scanned found
  pub ends : Ends text at found

-- a sign as one number, its code: its kind times four, and how many bytes it has; 0 for none

abbrev pub kind_in : ℕ → ℕ
kind_in code = code / 4

abbrev pub length_in : ℕ → ℕ
length_in code = code % 4

-- the code of a sign of so many bytes at most, or of none
pub record Coded (code most : ℕ) : Type 0 where
  pub low : 0 < code → first_sign ≤ kind_in code
  pub high : kind_in code ≤ last_sign
  pub some : 0 < code → 0 < length_in code
  pub few : length_in code ≤ most

abbrev pub sign_scan : ℕ → Scan
sign_scan code = cond (eqb code 0) no_token (token (sign (sign_of (kind_in code))) (length_in code - 1))

abbrev pub sign_found : ℕ → ℕ → Lexeme
sign_found at code = cond (eqb code 0) F.NoToken (F.Token (kind_in code) (at + length_in code))

-- the signs that begin with a byte, as one number: the second byte of the one that takes two, its code, and the code of the byte alone

abbrev pub second_of : ℕ → ℕ
second_of signs = signs % 256

abbrev pub pair_of : ℕ → ℕ
pair_of signs = signs / 256 % 256

abbrev pub alone_of : ℕ → ℕ
alone_of signs = signs / 65536

-- the longest of them before another byte
abbrev pub longest : ℕ → ℕ → ℕ
longest signs next = cond (eqb next (second_of signs)) (pair_of signs) (alone_of signs)

-- a byte begins these signs, whatever byte is next; before a 0, which is no byte of a sign, none takes two
pub record Begins (b signs : ℕ) : Type 0 where
  pub scans : (next : ℕ) → scan_two (two_bytes b next) b ≡ sign_scan (longest signs next)
  pub pair : Coded (pair_of signs) 2
  pub alone : Coded (alone_of signs) 1
  pub single : second_of signs ≡ 0 → length_in (pair_of signs) ≤ 1

-- a word as one number too: its kind, and its first byte
abbrev pub word_code : ℕ
word_code = 1

-- where the word or the sign of a code ends
abbrev pub plain_end : List ℕ → ℕ → ℕ → ℕ
plain_end text at code =
    let next = at + length_in code in
    cond (eqb (kind_in code) word_no) (next + word_more (drop next text)) next

abbrev pub plain_scan : ℕ → List ℕ → Scan
plain_scan b s = cond (is_id_start b) (scan_word b s) (scan_sign b s)

abbrev pub plain_found : List ℕ → ℕ → ℕ → Lexeme
plain_found text at code = cond (eqb code 0) F.NoToken (F.Token (kind_in code) (plain_end text at code))
