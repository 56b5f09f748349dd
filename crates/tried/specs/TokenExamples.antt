-- 01, "Tokens and grammar", first paragraph, by example: which bytes are of which class, each sign, and texts with their tokens.
use Rattle.std.specs.Prelude.{ℕ, ◌-◌, ◌^◌, ◌≡◌, Bool, not, List, [], ◌∷◌, ◌++◌, map, length}
use Rattle.paper.specs.Answers.{Answer, ok, refused, ◌>>=◌, in_text}
use Rattle.paper.specs.Tokens as T
use Rattle.paper.specs.Tokens.{Base, plain, literal_in, bytes, Token, word, numeral, string, join, sequel, implies, or_else, and_also, comparison, equal, unequal, greater, at_least, less, at_most, prefix, not_sign, minus_sign, opening, closing, colons, tokens}
use Rattle.paper.specs.Sentences.{token_at, sign_at}
use Rattle.tried.specs.Examples.{on, Agree, On, repeat, those, bytes_that, gives, refuses}

-- how many tokens a text is cut into
abbrev pub cut_into : List ℕ → Answer ℕ
cut_into text = tokens text >>= λ ts. ok (length ts)

abbrev pub one_token : List ℕ → Bool
one_token text = gives 1 (cut_into text)

abbrev pub no_token : List ℕ → Bool
no_token text = gives 0 (cut_into text)

-- a well-formed octal numeral, and nothing else
abbrev pub octal_alone : List ℕ → Bool
octal_alone text = refuses 22 0 (cut_into text)

abbrev pub digits : List ℕ
digits = bytes "0123456789"

abbrev pub letters : List ℕ
letters = bytes "ABCDEFGHIJKLMNOPQRSTUVWXYZ_abcdefghijklmnopqrstuvwxyz"

-- each class of bytes as a whole: those of all 256 with which a text is cut so
pub record ByteClasses : Type 0 where
  -- a quoted text is its bytes in ASCII
  pub quoted : bytes " !09AZ_az~" ≡ 32 ∷ 33 ∷ 48 ∷ 57 ∷ 65 ∷ 90 ∷ 95 ∷ 97 ∷ 122 ∷ 126 ∷ []
  -- "Blanks are space, tab, CR, LF"
  pub blanks : bytes_that (λ b. no_token (b ∷ [])) ≡ 9 ∷ 10 ∷ 13 ∷ 32 ∷ []
  -- a token alone: a sign of one byte, a digit, a letter or underscore
  pub alone : bytes_that (λ b. one_token (b ∷ [])) ≡ bytes "!()-" ++ digits ++ bytes ";<>" ++ letters
  -- "A run that starts with a letter or underscore is a word, id ('.' id)*": before a letter, and before a digit
  pub in_a_word : bytes_that (λ b. one_token (bytes "a" ++ (b ∷ bytes "a"))) ≡ bytes "." ++ digits ++ letters
  pub in_an_id : bytes_that (λ b. one_token (bytes "a" ++ (b ∷ bytes "1"))) ≡ digits ++ letters
  -- 004: "(0[dD])? [0-9]+", "0[bB] [0-1]+", "0[oO] [0-7]+", "0[xX] [0-9a-fA-F]+": after a first 0, and the digits of each base; of octal, which
  -- 02 h refuses, those that make a well-formed numeral
  pub after_zero : bytes_that (λ b. one_token (bytes "0" ++ (b ∷ bytes "1"))) ≡ digits ++ bytes "BDXbdx"
  pub octal_after_zero : bytes_that (λ b. octal_alone (bytes "0" ++ (b ∷ bytes "1"))) ≡ bytes "Oo"
  pub decimal : bytes_that (λ b. one_token (bytes "0d" ++ (b ∷ []))) ≡ digits
  pub binary : bytes_that (λ b. one_token (bytes "0b" ++ (b ∷ []))) ≡ bytes "01"
  pub octal : bytes_that (λ b. octal_alone (bytes "0o" ++ (b ∷ []))) ≡ bytes "01234567"
  pub hexadecimal : bytes_that (λ b. one_token (bytes "0x" ++ (b ∷ []))) ≡ digits ++ bytes "ABCDEFabcdef"
  -- "A string is a quote, bytes other than quote and LF, a quote": all but LF and quote
  pub not_in_a_string : bytes_that (λ b. not (one_token (bytes "'" ++ (b ∷ bytes "'")))) ≡ 10 ∷ 39 ∷ []
  -- ""//" up to LF or the end": LF alone ends a comment, so that "@" is met
  pub ends_a_comment : bytes_that (λ b. not (no_token (bytes "//" ++ (b ∷ bytes "@")))) ≡ 10 ∷ []

-- signs of two bytes: of all pairs of the printed bytes that are no letter, digit or underscore, and the string of no byte

abbrev pub marks : List ℕ
marks = bytes "!\"#$%&'()*+,-./:;<=>?@[\\]^`{|}~"

abbrev pub pairs_from : List ℕ → List (List ℕ)
pairs_from [] = []
pairs_from (b ∷ s) = map (λ c. b ∷ c ∷ []) (those (λ c. one_token (b ∷ c ∷ [])) marks) ++ pairs_from s

abbrev pub TwoBytes : Type 0
TwoBytes =
    pairs_from marks
    ≡ bytes "!=" ∷ bytes "&&" ∷ bytes "''" ∷ bytes "->" ∷ bytes "::" ∷ bytes "<=" ∷ bytes "==" ∷ bytes ">=" ∷ bytes "||" ∷ []

-- texts, and the tokens that they are cut into

abbrev pub cuts : List (On (List Token))
cuts =
    -- each sign, at its offset
    on (bytes "; -> || &&")
    (ok (sign_at 0 (join sequel) ∷ sign_at 2 (join implies) ∷ sign_at 5 (join or_else) ∷ sign_at 8 (join and_also) ∷ []))
    ∷ on (bytes "== != > >=")
    (ok (sign_at 0 (comparison equal) ∷ sign_at 3 (comparison unequal) ∷ sign_at 6 (comparison greater) ∷ sign_at 8 (comparison at_least) ∷ []))
    ∷ on (bytes "< <= ! -")
    (ok (sign_at 0 (comparison less) ∷ sign_at 2 (comparison at_most) ∷ sign_at 5 (prefix not_sign) ∷ sign_at 7 (prefix minus_sign) ∷ []))
    ∷ on (bytes "( ) ::") (ok (sign_at 0 opening ∷ sign_at 2 closing ∷ sign_at 4 colons ∷ []))
    -- "Tokens are the longest possible from the left: so "->" is one token and "--2" is three"
    ∷ on (bytes "->") (ok (sign_at 0 (join implies) ∷ []))
    ∷ on (bytes "--2") (ok (sign_at 0 (prefix minus_sign) ∷ sign_at 1 (prefix minus_sign) ∷ token_at 2 (numeral (plain 2)) ∷ []))
    ∷ on (bytes "-->") (ok (sign_at 0 (prefix minus_sign) ∷ sign_at 1 (join implies) ∷ []))
    ∷ on (bytes "<=>") (ok (sign_at 0 (comparison at_most) ∷ sign_at 2 (comparison greater) ∷ []))
    ∷ on (bytes "a::b") (ok (token_at 0 (word (bytes "a")) ∷ sign_at 1 colons ∷ token_at 3 (word (bytes "b")) ∷ []))
    ∷ on (bytes "a:b") (refused 5 in_text 1)
    -- a word takes all that goes on it: "with no blank inside; a dot not followed by an id start forms no token"
    ∷ on (bytes "_a1.B_2.c") (ok (token_at 0 (word (bytes "_a1.B_2.c")) ∷ []))
    ∷ on (bytes " ab  c") (ok (token_at 1 (word (bytes "ab")) ∷ token_at 5 (word (bytes "c")) ∷ []))
    ∷ on (bytes "ab..c") (refused 5 in_text 2)
    ∷ on (bytes "ab.") (refused 5 in_text 2)
    -- a string without its quotes, and what stands after it
    ∷ on (bytes "'a b'c") (ok (token_at 0 (string (bytes "a b")) ∷ token_at 5 (word (bytes "c")) ∷ []))
    ∷ on (bytes "''") (ok (token_at 0 (string []) ∷ []))
    ∷ on (bytes "'//'") (ok (token_at 0 (string (bytes "//")) ∷ []))
    ∷ on (bytes "a 'b") (refused 5 in_text 2)
    -- a comment is a blank
    ∷ on (bytes "a//b" ++ (10 ∷ bytes "c")) (ok (token_at 0 (word (bytes "a")) ∷ token_at 5 (word (bytes "c")) ∷ []))
    ∷ on (bytes "a// b") (ok (token_at 0 (word (bytes "a")) ∷ []))
    ∷ on (bytes "//") (ok [])
    ∷ on (bytes "a/") (refused 5 in_text 1)
    ∷ on (bytes "a/b") (refused 5 in_text 1)
    ∷ on [] (ok [])
    ∷ []

-- numerals: the one token of a text, with its base and number
abbrev pub spells_in : Base → ℕ → Answer (List Token)
spells_in base n = ok (token_at 0 (numeral (literal_in base n)) ∷ [])

abbrev pub spells : ℕ → Answer (List Token)
spells n = spells_in T.decimal n

abbrev pub numerals : List (On (List Token))
numerals =
    on (bytes "0") (spells 0)
    ∷ on (bytes "9") (spells 9)
    ∷ on (bytes "10") (spells 10)
    ∷ on (bytes "007") (spells 7)
    ∷ on (bytes "1234567890") (spells 1234567890)
    ∷ on (bytes "0d19") (spells 19)
    ∷ on (bytes "0D091") (spells 91)
    ∷ on (bytes "0b101") (spells_in T.binary 5)
    ∷ on (bytes "0B011") (spells_in T.binary 3)
    ∷ on (bytes "0x1234567890abcdef") (spells_in T.hex 0x1234567890abcdef)
    ∷ on (bytes "0XABCDEF") (spells_in T.hex 0xabcdef)
    -- zero in each base
    ∷ on (bytes "0d0") (spells 0)
    ∷ on (bytes "0b0") (spells_in T.binary 0)
    ∷ on (bytes "0x000") (spells_in T.hex 0)
    -- "must be one numeral of 004 as a whole, else refusal 5 at its start"
    ∷ on (bytes " 12ab") (refused 5 in_text 1)
    ∷ on (bytes "1_0") (refused 5 in_text 0)
    ∷ on (bytes "1x1") (refused 5 in_text 0)
    ∷ on (bytes "1b1") (refused 5 in_text 0)
    ∷ on (bytes "00x1") (refused 5 in_text 0)
    ∷ on (bytes "0x") (refused 5 in_text 0)
    ∷ on (bytes "0b") (refused 5 in_text 0)
    -- 6: "a numeral above 2^128 − 1", its first byte; one that is none is 5, however long
    ∷ on (bytes "340282366920938463463374607431768211455") (spells (2 ^ 128 - 1))
    ∷ on (bytes " 340282366920938463463374607431768211456") (refused 6 in_text 1)
    ∷ on (bytes "0b" ++ repeat 128 (bytes "1")) (spells_in T.binary (2 ^ 128 - 1))
    ∷ on (bytes "0b1" ++ repeat 128 (bytes "0")) (refused 6 in_text 0)
    ∷ on (bytes "0x" ++ repeat 32 (bytes "f")) (spells_in T.hex (2 ^ 128 - 1))
    ∷ on (bytes "0x" ++ repeat 33 (bytes "f")) (refused 6 in_text 0)
    ∷ on (bytes "0x" ++ repeat 33 (bytes "f") ++ bytes "g") (refused 5 in_text 0)
    -- 02 h: "A well-formed octal numeral is refused with new number 22 at its first byte, .. whatever its size (never 6)"
    ∷ on (bytes " 0o17") (refused 22 in_text 1)
    ∷ on (bytes "0O70") (refused 22 in_text 0)
    ∷ on (bytes "0o0") (refused 22 in_text 0)
    ∷ on (bytes "0o3" ++ repeat 42 (bytes "7")) (refused 22 in_text 0)
    ∷ on (bytes "0o4" ++ repeat 42 (bytes "0")) (refused 22 in_text 0)
    ∷ on (bytes "1 0o8") (refused 5 in_text 2)
    ∷ on (bytes "0o") (refused 5 in_text 0)
    ∷ on (bytes "0O") (refused 5 in_text 0)
    ∷ on (bytes "0o1_") (refused 5 in_text 0)
    ∷ on (bytes "0o7 @") (refused 22 in_text 0)
    ∷ on (bytes "@ 0o7") (refused 5 in_text 0)
    ∷ on (bytes "'0o7' //0o7") (ok (token_at 0 (string (bytes "0o7")) ∷ []))
    ∷ []

-- of a last token: 1,024 with an octal one at their end, and one more; 7 is lower than 22
abbrev pub crowded : ℕ → Answer (List Token)
crowded n = tokens (repeat n (bytes "a ") ++ bytes "0o7")

pub record Crowded : Type 0 where
  pub in_room : crowded 1023 ≡ refused 22 in_text 2046
  pub too_many : crowded 1024 ≡ refused 7 in_text 2048
  pub too_large : tokens (repeat 1024 (bytes "a ") ++ bytes "0o4" ++ repeat 42 (bytes "0")) ≡ refused 7 in_text 2048

pub record TokenExamples : Type 0 where
  pub classes : ByteClasses
  pub two_bytes : TwoBytes
  pub texts : Agree tokens cuts
  pub numbers : Agree tokens numerals
  pub crowded : Crowded
