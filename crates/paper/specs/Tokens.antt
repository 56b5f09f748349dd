-- 01, "Tokens and grammar", first paragraph; refusals 1, 5, 6 and 7. With 02 e, the base of a numeral, and 02 h, "Octal goes": 22.
-- "Blanks are space, tab, CR, LF, and "//" up to LF or the end. Tokens are the longest possible from the left: so "->" is one
-- token and "--2" is three. A run that starts with a letter or underscore is a word, id ('.' id)*, with no blank inside; a dot
-- not followed by an id start forms no token. A run of letters, digits and underscores that starts with a digit must be one
-- numeral of 004 as a whole, else refusal 5 at its start. A string is a quote, bytes other than quote and LF, a quote."
use Rattle.std.specs.Prelude.{ℕ, zero, suc, ◌-◌, ◌^◌, Bool, true, false, not, cond, ◌&&◌, ◌||◌, List, [], ◌∷◌, map, length, get_or, take, drop, eqb, ltb, leb}
use Rattle.std.proofs.Math.Option.{Option, none, some}
use Prim.Native.Char.{code}
use Prim.Native.String as S
use Rattle.paper.specs.Answers.{Answer, ok, refused, ◌>>=◌, in_text}
use Rattle.paper.specs.Numbers.{in_base}

-- bytes

-- those of a quoted text
abbrev pub bytes : S.String → List ℕ
bytes S.[] = []
bytes (S.◌∷◌ c s) = code c ∷ bytes s

abbrev pub same_bytes : List ℕ → List ℕ → Bool
same_bytes [] [] = true
same_bytes [] (b ∷ t) = false
same_bytes (a ∷ s) [] = false
same_bytes (a ∷ s) (b ∷ t) =
    let rest = same_bytes s t in
    cond (eqb a b) rest false

-- one byte, or two in a row, against a quoted text
abbrev pub is : S.String → ℕ → Bool
is q b = eqb b (get_or (bytes q) 0 0)

abbrev pub are : S.String → ℕ → ℕ → Bool
are q b c = eqb b (get_or (bytes q) 0 0) && eqb c (get_or (bytes q) 1 0)

abbrev pub within : ℕ → ℕ → ℕ → Bool
within low high b = leb low b && leb b high

abbrev pub is_digit : ℕ → Bool
is_digit b = within 48 57 b  -- 0 to 9

-- id ::= [_a-zA-Z][_a-zA-Z0-9]*
abbrev pub is_id_start : ℕ → Bool
is_id_start b = within 97 122 b || within 65 90 b || is "_" b

abbrev pub is_id_byte : ℕ → Bool
is_id_byte b = is_id_start b || is_digit b

-- space, tab, CR, LF
abbrev pub is_blank : ℕ → Bool
is_blank b = is " " b || eqb b 9 || eqb b 13 || eqb b 10

-- how many bytes from the left pass a test
abbrev pub span : (ℕ → Bool) → List ℕ → ℕ
span p [] = 0
span p (b ∷ s) =
    let more = suc (span p s) in
    cond (p b) more 0

-- whether the next byte passes it
abbrev pub starts : (ℕ → Bool) → List ℕ → Bool
starts p [] = false
starts p (b ∷ s) = p b

-- words: how many bytes go on a word, an id byte or a dot that an id start follows

abbrev pub word_more : List ℕ → ℕ
word_more [] = 0
word_more (b ∷ s) =
    let more = suc (word_more s) in
    cond (is_id_byte b || is "." b && starts is_id_start s) more 0

-- key ::= id ('.' id)*: a word is there, and it is the whole
abbrev pub is_key : List ℕ → Bool
is_key [] = false
is_key (b ∷ s) = is_id_start b && eqb (word_more s) (length s)

-- no dot in it
abbrev pub undotted : List ℕ → Bool
undotted s = eqb (span (λ b. not (is "." b)) s) (length s)

-- numerals: (0[dD])? [0-9]+, 0[bB] [0-1]+, 0[oO] [0-7]+, 0[xX] [0-9a-fA-F]+

-- 02 e: "A numeral that is read must also report how it was written: decimal, binary, octal or hex." 02 h: "The base list of e) loses octal."
pub data Base : Type 0 where
  decimal binary hex : Base

abbrev pub radix : Base → ℕ
radix decimal = 10
radix binary = 2
radix hex = 16

-- how a numeral of 004 is written: in a base, or in octal, which has none
pub data Notation : Type 0 where
  based : Base → Notation
  octal : Notation

abbrev pub radix_of : Notation → ℕ
radix_of (based base) = radix base
radix_of octal = 8

pub record Numeral : Type 0 where
  pub notation : Notation
  pub digits : List ℕ

-- what a digit counts, in either case of a letter; 16, the digit of no base, for any other byte
abbrev pub digit_of : ℕ → ℕ
digit_of b =
    cond (is_digit b) (b - 48)
    (cond (within 97 102 b) (b - 87)
    (cond (within 65 70 b) (b - 55) 16))

-- the notation that a letter announces after a first 0
abbrev pub notation_of : ℕ → Option Notation
notation_of b =
    cond (is "d" b || is "D" b) (some (based decimal))
    (cond (is "b" b || is "B" b) (some (based binary))
    (cond (is "o" b || is "O" b) (some octal)
    (cond (is "x" b || is "X" b) (some (based hex)) none)))

abbrev pub spelled : Option Notation → List ℕ → List ℕ → Numeral
spelled (some notation) run rest = record { notation = notation; digits = rest }
spelled none run rest = record { notation = based decimal; digits = run }

-- how a run is spelled: by its letter after a first 0, else in decimal. A run has a first byte: the clause of none is never asked
abbrev pub spelling : List ℕ → Numeral
spelling [] = record { notation = based decimal; digits = [] }
spelling (b ∷ []) = record { notation = based decimal; digits = b ∷ [] }
spelling (b ∷ c ∷ s) = spelled (cond (is "0" b) (notation_of c) none) (b ∷ c ∷ s) s

-- at least one digit, and all of them of the notation
abbrev pub is_numeral : Numeral → Bool
is_numeral n = ltb 0 (length n.digits) && eqb (span (λ b. ltb (digit_of b) (radix_of n.notation)) n.digits) (length n.digits)

abbrev pub numeral_value : Numeral → ℕ
numeral_value n = in_base (radix_of n.notation) (map digit_of n.digits)

-- what a token and a tree keep of a number: how it was written, and its value. "Tokens, tree and print carry it."
pub record Literal : Type 0 where
  pub base : Base
  pub value : ℕ

abbrev pub literal_in : Base → ℕ → Literal
literal_in base n = record { base = base; value = n }

-- "address numerals stay decimal"
abbrev pub plain : ℕ → Literal
plain n = literal_in decimal n

-- signs

pub data Prefix : Type 0 where
  not_sign minus_sign : Prefix

pub data Join : Type 0 where
  sequel implies or_else and_also : Join

pub data Comparison : Type 0 where
  equal unequal greater at_least less at_most : Comparison

pub data Sign : Type 0 where
  join : Join → Sign
  comparison : Comparison → Sign
  prefix : Prefix → Sign
  opening closing colons : Sign

abbrev pub two_bytes : ℕ → ℕ → Option Sign
two_bytes b c =
    cond (are "->" b c) (some (join implies))
    (cond (are "||" b c) (some (join or_else))
    (cond (are "&&" b c) (some (join and_also))
    (cond (are "==" b c) (some (comparison equal))
    (cond (are "!=" b c) (some (comparison unequal))
    (cond (are ">=" b c) (some (comparison at_least))
    (cond (are "<=" b c) (some (comparison at_most))
    (cond (are "::" b c) (some colons) none)))))))

abbrev pub one_byte : ℕ → Option Sign
one_byte b =
    cond (is ";" b) (some (join sequel))
    (cond (is ">" b) (some (comparison greater))
    (cond (is "<" b) (some (comparison less))
    (cond (is "!" b) (some (prefix not_sign))
    (cond (is "-" b) (some (prefix minus_sign))
    (cond (is "(" b) (some opening)
    (cond (is ")" b) (some closing) none))))))

-- tokens

pub data Tok : Type 0 where
  word : List ℕ → Tok
  numeral : Literal → Tok
  string : List ℕ → Tok
  sign : Sign → Tok

-- with the offset of its first byte
pub record Token : Type 0 where
  pub at : ℕ
  pub tok : Tok

-- what stands at a byte that no token before it covers: each with how many bytes more it takes; of a well-formed octal numeral also its number,
-- whatever its size
pub data Scan : Type 0 where
  blank : ℕ → Scan
  token : Tok → ℕ → Scan
  octal_numeral : ℕ → ℕ → Scan
  no_token too_large : Scan

-- how many bytes more; none where there is nothing to take
abbrev pub taken : Scan → ℕ
taken (blank n) = n
taken (token t n) = n
taken (octal_numeral v n) = n
taken no_token = 0
taken too_large = 0

abbrev pub scan_comment : List ℕ → Scan
scan_comment [] = no_token
scan_comment (c ∷ s) = cond (is "/" c) (blank (suc (span (λ b. not (eqb b 10)) s))) no_token

-- after the quote: bytes other than quote and LF, a quote
abbrev pub scan_string : List ℕ → Scan
scan_string s =
    let n = span (λ b. not (is "'" b || eqb b 10)) s in
    cond (starts (is "'") (drop n s)) (token (string (take n s)) (suc n)) no_token

abbrev pub scan_word : ℕ → List ℕ → Scan
scan_word b s = token (word (b ∷ take (word_more s) s)) (word_more s)

-- 6: "a numeral above 2^128 − 1"
abbrev pub literal_scan : Base → ℕ → ℕ → Scan
literal_scan base v more = cond (ltb v (2 ^ 128)) (token (numeral (literal_in base v)) more) too_large

abbrev pub numeral_scan : Notation → ℕ → ℕ → Scan
numeral_scan (based base) v more = literal_scan base v more
numeral_scan octal v more = octal_numeral v more

-- "must be one numeral of 004 as a whole"
abbrev pub scan_numeral : ℕ → List ℕ → Scan
scan_numeral b s =
    let more = span is_id_byte s in
    let n = spelling (b ∷ take more s) in
    cond (is_numeral n) (numeral_scan n.notation (numeral_value n) more) no_token

abbrev pub scan_one : Option Sign → Scan
scan_one (some g) = token (sign g) 0
scan_one none = no_token

-- "the longest possible from the left"
abbrev pub scan_two : Option Sign → ℕ → Scan
scan_two (some g) b = token (sign g) 1
scan_two none b = scan_one (one_byte b)

abbrev pub scan_sign : ℕ → List ℕ → Scan
scan_sign b [] = scan_one (one_byte b)
scan_sign b (c ∷ s) = scan_two (two_bytes b c) b

pub data Class : Type 0 where
  is_space is_slash is_quote is_letter is_figure is_other : Class

abbrev pub class_of : ℕ → Class
class_of b =
    cond (is_blank b) is_space
    (cond (is "/" b) is_slash
    (cond (is "'" b) is_quote
    (cond (is_id_start b) is_letter
    (cond (is_digit b) is_figure is_other))))

abbrev pub scan_class : Class → ℕ → List ℕ → Scan
scan_class is_space b s = blank 0
scan_class is_slash b s = scan_comment s
scan_class is_quote b s = scan_string s
scan_class is_letter b s = scan_word b s
scan_class is_figure b s = scan_numeral b s
scan_class is_other b s = scan_sign b s

unfoldable pub scan : ℕ → List ℕ → Scan
scan b s = scan_class (class_of b) b s

abbrev pub onward : Scan → ℕ → ℕ → (ℕ → ℕ → Answer (List Token)) → Answer (List Token)
onward (blank n) at room go = go n room
onward (token t n) at zero go = refused 7 in_text at
onward (token t n) at (suc room) go = go n room >>= λ ts. ok (record { at = at; tok = t } ∷ ts)
onward (octal_numeral v n) at zero go = refused 7 in_text at
onward (octal_numeral v n) at (suc room) go = refused 22 in_text at
onward no_token at room go = refused 5 in_text at
onward too_large at room go = refused 6 in_text at

-- what stands at a byte, of it and those after it
abbrev pub Scanner : Type 0
Scanner = ℕ → List ℕ → Scan

-- the tokens from an offset on: how many bytes the last one still covers, the offset, and how many tokens there is room for.
-- "In a stage the earliest place wins; at one place the lower number wins": 7 only where 5 and 6 are not given, and 02 h's 22, "whatever its size
-- (never 6)", only where 7 is not.
unfoldable pub tokens_by : Scanner → ℕ → ℕ → ℕ → List ℕ → Answer (List Token)
tokens_by look n at room [] = ok []
tokens_by look (suc n) at room (b ∷ s) = tokens_by look n (suc at) room s
tokens_by look zero at room (b ∷ s) = onward (look b s) at room (λ n left. tokens_by look n (suc at) left s)

abbrev pub tokens_from : ℕ → ℕ → ℕ → List ℕ → Answer (List Token)
tokens_from n at room s = tokens_by scan n at room s

-- 7: "a 1,025th token"
abbrev pub most_tokens : ℕ
most_tokens = 1024

unfoldable pub tokens : List ℕ → Answer (List Token)
unfolding tokens_by scan
tokens text = tokens_from 0 0 most_tokens text

-- 1: "text over 4,096 bytes", text 4096
abbrev pub most_text : ℕ
most_text = 4096
