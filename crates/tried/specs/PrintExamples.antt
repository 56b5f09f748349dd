-- 02 a and e by example: texts with their prints, where parentheses stay, numerals in each base, and what is lent.
use Rattle.std.specs.Prelude.{ℕ, ◌-◌, ◌^◌, ◌≡◌, true, cond, List, [], ◌∷◌, ◌++◌, map, length, get_or, replicate, Result, Ok}
use Rattle.paper.specs.declared.Refusal.{Refusal}
use Prim.Native.String as S
use Rattle.paper.specs.declared.Place.TheVariants as P
use Rattle.paper.specs.Answers.{Answer, ok, refused, ◌>>=◌, in_text, in_buffer, says, refusal}
use Rattle.paper.specs.Tokens as H
use Rattle.paper.specs.Tokens.{plain, literal_in, bytes, is, starts, sequel, equal, not_sign}
use Rattle.paper.specs.Grammar.{Tree, truth, number, key, field, attribute, prefixed, joined, compared}
use Rattle.paper.specs.Print.{bare, digits_in, numeral_in, print}
use Rattle.paper.specs.Sized.{levels, count}
use Rattle.paper.specs.Calls.{tree, print_answer, print_buffer}
use Rattle.tried.specs.Examples.{Example, on, Agree, OnText, AgreeOnTexts, repeat, rows, cross, dot, other}

abbrev pub printed : List ℕ → Answer (List ℕ)
printed text = tree text >>= λ t. ok (print t)

abbrev pub prints : S.String → S.String → OnText (List ℕ)
prints text house = on text (ok (bytes house))

-- each leaf: "An address counts, in tree and print, as the decimal numeral of its number", no blank round "::"
abbrev pub leaves : List (OnText (List ℕ))
leaves =
    prints " true" "true"
    ∷ prints "(false)" "false"
    ∷ prints "a.b" "a.b"
    ∷ prints "k :: value" "k::value"
    ∷ prints "a.b::true" "a.b::true"
    ∷ prints ":: priority" "::priority"
    ∷ prints "ipv4('0.0.1.0')" "256"
    ∷ prints "ipv4('0.0.0.16')" "16"
    ∷ prints "ipv6 ( 'f::' )" "77884452878022414427957444938301440"
    ∷ prints "mac('00:00:00:00:00:05')" "5"
    ∷ []

-- numerals: "that base with lower-case digits and prefix (none for decimal), without leading zeros"
abbrev pub in_bases : List (OnText (List ℕ))
in_bases =
    prints "0" "0"
    ∷ prints "0d0" "0"
    ∷ prints "0b0" "0b0"
    ∷ prints "0x0" "0x0"
    ∷ prints "007" "7"
    ∷ prints "0d10" "10"
    ∷ prints "0D0099" "99"
    ∷ prints "1234567890" "1234567890"
    ∷ prints "0b1010" "0b1010"
    ∷ prints "0B0011" "0b11"
    ∷ prints "0xF0f0f0f0" "0xf0f0f0f0"
    ∷ prints "0X0010" "0x10"
    ∷ prints "0xabcdef0123456789" "0xabcdef0123456789"
    ∷ prints "340282366920938463463374607431768211455" "340282366920938463463374607431768211455"
    ∷ prints "0xffffffffffffffffffffffffffffffff" "0xffffffffffffffffffffffffffffffff"
    -- the same number in another base prints otherwise
    ∷ prints "1" "1"
    ∷ prints "0x1" "0x1"
    ∷ []

-- each operator: "one blank on each side of a binary operator and none elsewhere", "no trailing ";"", "";" kept distinct from "&&""
abbrev pub operators : List (OnText (List ℕ))
operators =
    prints "a;b" "a ; b"
    ∷ prints "a  ;  b ;" "a ; b"
    ∷ prints "a->b" "a -> b"
    ∷ prints "a||b" "a || b"
    ∷ prints "a&&b // why" "a && b"
    ∷ prints "a==b" "a == b"
    ∷ prints "a!=b" "a != b"
    ∷ prints "a>b" "a > b"
    ∷ prints "a>=b" "a >= b"
    ∷ prints "a<b" "a < b"
    ∷ prints "a<=b" "a <= b"
    ∷ prints "! a" "!a"
    ∷ prints "- a" "-a"
    ∷ prints "- -2" "--2"
    ∷ prints "-(-2)" "--2"
    ∷ prints "! - !x" "!-!x"
    ∷ []

-- "only parentheses that the grammar needs"
abbrev pub parentheses : List (OnText (List ℕ))
parentheses =
    prints "((a))" "a"
    ∷ prints "(a;b);c" "a ; b ; c"
    ∷ prints "a;(b;c);" "a ; (b ; c)"
    ∷ prints "a->b;c" "a -> b ; c"
    ∷ prints "(a->b)->c" "(a -> b) -> c"
    ∷ prints "a->(b->c)" "a -> (b -> c)"
    ∷ prints "a && b && c" "a && b && c"
    ∷ prints "((a&&b))||c&&(d&&e)" "a && b || c && (d && e)"
    ∷ prints "(a||b)&&c" "(a || b) && c"
    ∷ prints "(a==b)==c" "(a == b) == c"
    ∷ prints "a==(b&&c)" "a == (b && c)"
    ∷ prints "!(a==b)" "!(a == b)"
    ∷ prints "!a==b" "!a == b"
    ∷ prints "- -2 < -(-0x1F)" "--2 < --0x1f"
    ∷ prints "!((a;b)->!(c))" "!((a ; b) -> !c)"
    ∷ []

-- at the limits of 64 levels and 1,024 tokens
abbrev pub at_limits : List (Example (List ℕ) (Answer (List ℕ)))
at_limits =
    on (repeat 64 (bytes "! ") ++ bytes "a") (ok (repeat 64 (bytes "!") ++ bytes "a"))
    ∷ on (repeat 64 (bytes "a;(") ++ bytes "b;c" ++ repeat 64 (bytes ")")) (ok (repeat 64 (bytes "a ; (") ++ bytes "b ; c" ++ repeat 64 (bytes ")")))
    ∷ on (repeat 512 (bytes "a;")) (ok (bytes "a" ++ repeat 511 (bytes " ; a")))
    ∷ []

-- which parentheses stay, for each operand in one before or after each operator: x where they do, . where they go

abbrev pub last_is : S.String → List ℕ → ℕ
last_is q s = cond (is q (get_or s (length s - 1) 0)) cross dot

abbrev pub first_is : S.String → List ℕ → ℕ
first_is q s = cond (starts (is q) s) cross dot

abbrev pub marked : (List ℕ → ℕ) → Answer (List ℕ) → ℕ
marked mark (ok s) = mark s
marked mark (refused n i at) = other

abbrev pub inside : List S.String
inside = "a;b" ∷ "a->b" ∷ "a||b" ∷ "a&&b" ∷ "a==b" ∷ "a<b" ∷ "!a" ∷ "a" ∷ "a::b" ∷ "::b" ∷ "1" ∷ "true" ∷ []

abbrev pub outside : List S.String
outside = ";" ∷ "->" ∷ "||" ∷ "&&" ∷ "==" ∷ "<" ∷ []

abbrev pub kept_before : List (List ℕ)
kept_before =
    map (λ s. map (λ o. marked (first_is "(") (printed (bytes "(" ++ bytes s ++ bytes ")" ++ bytes o ++ bytes "c"))) outside) inside

abbrev pub kept_after : List (List ℕ)
kept_after =
    map (λ s. map (λ o. marked (last_is ")") (printed (bytes "c" ++ bytes o ++ bytes "(" ++ bytes s ++ bytes ")"))) outside) inside

abbrev pub kept_under : List (List ℕ)
kept_under = map (λ o. map (λ s. marked (last_is ")") (printed (bytes o ++ bytes "(" ++ bytes s ++ bytes ")"))) inside) ("!" ∷ "-" ∷ [])

-- digits in any base, lower-case and no 0 before another

pub record Numerals : Type 0 where
  pub binary : Agree (numeral_in 2) (on 0 (bytes "0") ∷ on 1 (bytes "1") ∷ on 2 (bytes "10") ∷ on 13 (bytes "1101") ∷ [])
  pub octal : Agree (numeral_in 8) (on 7 (bytes "7") ∷ on 8 (bytes "10") ∷ on 511 (bytes "777") ∷ [])
  pub hex : Agree (numeral_in 16) (on 9 (bytes "9") ∷ on 10 (bytes "a") ∷ on 15 (bytes "f") ∷ on 0xf0e1 (bytes "f0e1") ∷ [])
  pub longest : numeral_in 2 (2 ^ 128 - 1) ≡ replicate 128 49
  pub at_most : Agree (λ most. digits_in 10 most 407) (on 0 [] ∷ on 2 (0 ∷ 7 ∷ []) ∷ on 3 (4 ∷ 0 ∷ 7 ∷ []) ∷ [])

-- trees without their places
abbrev pub bare_trees : List (OnText Tree)
bare_trees =
    on " true" (ok (truth 0 true))
    ∷ on " 1" (ok (number 0 (plain 1)))
    ∷ on " 0x1" (ok (number 0 (literal_in H.hex 1)))
    ∷ on " a" (ok (key 0 (bytes "a")))
    ∷ on " a::b" (ok (field 0 (bytes "a") 0 (bytes "b")))
    ∷ on " ::b" (ok (attribute 0 0 (bytes "b")))
    ∷ on " !a" (ok (prefixed 0 not_sign (key 0 (bytes "a"))))
    ∷ on "a;b" (ok (joined 0 sequel (key 0 (bytes "a")) (key 0 (bytes "b"))))
    ∷ on "a==b" (ok (compared 0 equal (key 0 (bytes "a")) (key 0 (bytes "b"))))
    ∷ []

-- tokens and levels of prints
abbrev pub tokens_of_prints : List (OnText ℕ)
tokens_of_prints =
    on "true" (ok 1)
    ∷ on "12" (ok 1)
    ∷ on "((a))" (ok 1)
    ∷ on "a::b" (ok 3)
    ∷ on "::b" (ok 2)
    ∷ on "!(a)" (ok 2)
    ∷ on "!(a;b)" (ok 6)
    ∷ on "(a;b);(c;d);" (ok 9)
    ∷ on "(a->b)->c" (ok 7)
    ∷ on "(a==b)==(c==d)" (ok 11)
    ∷ []

abbrev pub levels_of_prints : List (OnText ℕ)
levels_of_prints =
    on "true" (ok 0)
    ∷ on "12" (ok 0)
    ∷ on "((a))" (ok 0)
    ∷ on "a::b" (ok 0)
    ∷ on "::b" (ok 0)
    ∷ on "!(a)" (ok 1)
    ∷ on "!(a;b)" (ok 2)
    ∷ on "(a;b);(c;d)" (ok 1)
    ∷ on "(a;b);(c;(d;e))" (ok 2)
    ∷ on "((a->b)->c)->d" (ok 2)
    ∷ on "(a==b)==c" (ok 1)
    ∷ on "a==(b==!c)" (ok 2)
    ∷ []

-- what is lent: "A print over 4,096 bytes, or over the lent buffer, is refused with number 21, placed in the buffer at its length"

pub record Lending : Type 0 where
  pub text : List ℕ
  pub buffer : List ℕ

abbrev pub lending : S.String → S.String → Lending
lending s b = record { text = bytes s; buffer = bytes b }

-- two words of so many bytes, with "&&" between them: the print has two blanks more
abbrev pub two_words : ℕ → ℕ → List ℕ
two_words m n = replicate m 97 ++ bytes "&&" ++ replicate n 97

-- the longest numeral: 130 bytes
abbrev pub longest : List ℕ
longest = bytes "0b" ++ replicate 128 49

-- thirty of them, and a word of so many bytes, with ";" between them: the print has 60 blanks more
abbrev pub longest_then : ℕ → List ℕ
longest_then n = repeat 30 (longest ++ bytes ";") ++ replicate n 97

abbrev pub into : List ℕ → ℕ → Lending
into s n = record { text = s; buffer = replicate n 46 }

abbrev pub answers : List (Example Lending (Answer ℕ))
answers =
    on (lending "a;b" ".....") (ok 5)
    ∷ on (lending "a;b" ".......") (ok 5)
    ∷ on (lending "a;b" "....") (refused 21 in_buffer 4)
    ∷ on (lending "a" "") (refused 21 in_buffer 0)
    ∷ on (lending "a b" "") (refused 8 in_text 2)
    ∷ on (lending "@" "") (refused 5 in_text 0)
    ∷ on (into (replicate 4097 64) 0) (refused 1 in_text 4096)
    ∷ on (into (two_words 2046 2046) 4096) (ok 4096)
    ∷ on (into (two_words 2046 2046) 4095) (refused 21 in_buffer 4095)
    ∷ on (into (two_words 2047 2046) 5000) (refused 21 in_buffer 5000)
    ∷ on (into (two_words 2047 2047) 4098) (refused 21 in_buffer 4098)
    ∷ on (into longest 130) (ok 130)
    ∷ on (into longest 129) (refused 21 in_buffer 129)
    ∷ on (into (longest_then 106) 4096) (ok 4096)
    ∷ on (into (longest_then 107) 4097) (refused 21 in_buffer 4097)
    ∷ []

-- "Bytes after a print .. stay", and a refusal changes none
abbrev pub buffers : List (Example Lending (List ℕ))
buffers =
    on (lending "a;b" ".....") (bytes "a ; b")
    ∷ on (lending "a;b" ".......") (bytes "a ; b..")
    ∷ on (lending "a;b" "....") (bytes "....")
    ∷ on (lending "a b" ".......") (bytes ".......")
    ∷ []

-- the cases of the public answer
abbrev pub told : List (Example (Result ℕ Refusal) (Answer ℕ))
told = on (Ok 5) (ok 5) ∷ on (refusal 21 (P.Buffer 4)) (refused 21 in_buffer 4) ∷ []

pub record PrintExamples : Type 0 where
  pub of_leaves : AgreeOnTexts printed leaves
  pub of_bases : AgreeOnTexts printed in_bases
  pub of_longest : printed longest ≡ ok longest
  pub of_operators : AgreeOnTexts printed operators
  pub of_parentheses : AgreeOnTexts printed parentheses
  pub at_limits_lem : Agree printed at_limits
  pub kept_before_lem : kept_before
      ≡ rows (".xxxxx" ∷ ".xxxxx" ∷ "...xxx" ∷ "....xx" ∷ "....xx" ∷ "....xx" ∷ "......" ∷ "......" ∷ "......" ∷ "......" ∷ "......" ∷ "......" ∷ [])
  pub kept_after_lem : kept_after
      ≡ rows ("xxxxxx" ∷ ".xxxxx" ∷ "..xxxx" ∷ "...xxx" ∷ "....xx" ∷ "....xx" ∷ "......" ∷ "......" ∷ "......" ∷ "......" ∷ "......" ∷ "......" ∷ [])
  pub kept_under_lem : kept_under ≡ rows ("xxxxxx......" ∷ "xxxxxx......" ∷ [])
  pub of_numerals : Numerals
  pub of_bare_trees : AgreeOnTexts (λ text. tree text >>= λ t. ok (bare t)) bare_trees
  pub tokens_counted : AgreeOnTexts (λ text. tree text >>= λ t. ok (count t)) tokens_of_prints
  pub levels_counted : AgreeOnTexts (λ text. tree text >>= λ t. ok (levels t)) levels_of_prints
  pub of_answers : Agree (λ (l : Lending). print_answer l.text l.buffer) answers
  pub of_buffers : Agree (λ (l : Lending). print_buffer l.text l.buffer) buffers
  pub of_cases : Agree says told
