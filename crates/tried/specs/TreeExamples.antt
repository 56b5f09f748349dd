-- 01, "Tokens and grammar", second paragraph, by example: texts with their trees, and texts that are no sentence, with the place.
use Rattle.std.specs.Prelude.{ℕ, true, false, List, [], ◌∷◌}
use Prim.Native.String as S
use Rattle.paper.specs.Answers.{Answer, ok, refused, ◌>>=◌, in_text}
use Rattle.paper.specs.Tokens.{binary, hex, plain, literal_in, bytes, sequel, implies, or_else, and_also, equal, unequal, greater, at_least, less, at_most, not_sign, minus_sign}
use Rattle.paper.specs.Grammar.{Tree, truth, number, key, field, attribute, prefixed, joined, compared, place_of}
use Rattle.paper.specs.Calls.{tree, read_answer}
use Rattle.tried.specs.Examples.{on, OnText, AgreeOnTexts}

-- a key of a name
abbrev pub key_at : ℕ → S.String → Tree
key_at place name = key place (bytes name)

-- "An atom is true, false, a numeral, an address, a key, a key with "::" and an undotted word, "::" and an undotted word, or a
-- parenthesis". "Parentheses make no node; a node's place is its operator ("::" counts as none here and in a print), else its first
-- token."
abbrev pub atoms : List (OnText Tree)
atoms =
    on "true" (ok (truth 0 true))
    ∷ on " false" (ok (truth 1 false))
    ∷ on "12" (ok (number 0 (plain 12)))
    ∷ on "0x12" (ok (number 0 (literal_in hex 18)))
    ∷ on "0B11" (ok (number 0 (literal_in binary 3)))
    ∷ on "0o17" (refused 22 in_text 0)
    ∷ on "0D10" (ok (number 0 (plain 10)))
    ∷ on "ipv4('1.2.3.4')" (ok (number 0 (plain 0x01020304)))
    ∷ on "ipv6('::1')" (ok (number 0 (plain 1)))
    ∷ on " mac ( '00:00:00:00:00:05' )" (ok (number 1 (plain 5)))
    ∷ on "a.b" (ok (key_at 0 "a.b"))
    ∷ on "a::b" (ok (field 0 (bytes "a") 3 (bytes "b")))
    ∷ on " a.b :: c" (ok (field 1 (bytes "a.b") 8 (bytes "c")))
    ∷ on "::b" (ok (attribute 0 2 (bytes "b")))
    ∷ on " :: b" (ok (attribute 1 4 (bytes "b")))
    ∷ on "(a)" (ok (key_at 1 "a"))
    ∷ on "((12))" (ok (number 2 (plain 12)))
    -- ""ipv4", "ipv6" and "mac" begin an address only before "(", else they are keys."
    ∷ on "ipv4" (ok (key_at 0 "ipv4"))
    ∷ on "(ipv6)" (ok (key_at 1 "ipv6"))
    ∷ on "mac::b" (ok (field 0 (bytes "mac") 5 (bytes "b")))
    ∷ on "mac==1" (ok (compared 3 equal (key_at 0 "mac") (number 5 (plain 1))))
    -- "After "::" any undotted word is a name, "true" included."
    ∷ on "a::true" (ok (field 0 (bytes "a") 3 (bytes "true")))
    ∷ on "::false" (ok (attribute 0 2 (bytes "false")))
    ∷ on "a::ipv4" (ok (field 0 (bytes "a") 3 (bytes "ipv4")))
    ∷ []

-- each operator: its place is its own
abbrev pub operators : List (OnText Tree)
operators =
    on "!a" (ok (prefixed 0 not_sign (key_at 1 "a")))
    ∷ on "-a" (ok (prefixed 0 minus_sign (key_at 1 "a")))
    ∷ on "a;b" (ok (joined 1 sequel (key_at 0 "a") (key_at 2 "b")))
    ∷ on "a->b" (ok (joined 1 implies (key_at 0 "a") (key_at 3 "b")))
    ∷ on "a||b" (ok (joined 1 or_else (key_at 0 "a") (key_at 3 "b")))
    ∷ on "a&&b" (ok (joined 1 and_also (key_at 0 "a") (key_at 3 "b")))
    ∷ on "a==b" (ok (compared 1 equal (key_at 0 "a") (key_at 3 "b")))
    ∷ on "a!=b" (ok (compared 1 unequal (key_at 0 "a") (key_at 3 "b")))
    ∷ on "a>b" (ok (compared 1 greater (key_at 0 "a") (key_at 2 "b")))
    ∷ on "a>=b" (ok (compared 1 at_least (key_at 0 "a") (key_at 3 "b")))
    ∷ on "a<b" (ok (compared 1 less (key_at 0 "a") (key_at 2 "b")))
    ∷ on "a<=b" (ok (compared 1 at_most (key_at 0 "a") (key_at 3 "b")))
    ∷ []

-- "Loosest to tightest: ";" left, "->" at most once, "||" left, "&&" left, one comparison at most, prefix "!" and "-", atoms."
abbrev pub ladder : List (OnText Tree)
ladder =
    on "a;b;c" (ok (joined 3 sequel (joined 1 sequel (key_at 0 "a") (key_at 2 "b")) (key_at 4 "c")))
    ∷ on "a||b||c" (ok (joined 4 or_else (joined 1 or_else (key_at 0 "a") (key_at 3 "b")) (key_at 6 "c")))
    ∷ on "a&&b&&c" (ok (joined 4 and_also (joined 1 and_also (key_at 0 "a") (key_at 3 "b")) (key_at 6 "c")))
    -- each step down the ladder on the right of the one before it, and on the left
    ∷ on "a;b->c||d&&e==!f"
    (ok
    (joined 1 sequel (key_at 0 "a")
    (joined 3 implies (key_at 2 "b")
    (joined 6 or_else (key_at 5 "c") (joined 9 and_also (key_at 8 "d") (compared 12 equal (key_at 11 "e") (prefixed 14 not_sign (key_at 15 "f"))))))))
    ∷ on "!f==e&&d||c->b;a"
    (ok
    (joined 14 sequel
    (joined 11 implies
    (joined 8 or_else (joined 5 and_also (compared 2 equal (prefixed 0 not_sign (key_at 1 "f")) (key_at 4 "e")) (key_at 7 "d")) (key_at 10 "c"))
    (key_at 13 "b"))
    (key_at 15 "a")))
    ∷ on "!-a::b" (ok (prefixed 0 not_sign (prefixed 1 minus_sign (field 2 (bytes "a") 5 (bytes "b")))))
    -- "a parenthesis, inside which the whole ladder starts again"
    ∷ on "(a;b)->c" (ok (joined 5 implies (joined 2 sequel (key_at 1 "a") (key_at 3 "b")) (key_at 7 "c")))
    ∷ on "a->(b->c)" (ok (joined 1 implies (key_at 0 "a") (joined 5 implies (key_at 4 "b") (key_at 7 "c"))))
    ∷ on "(a==b)==c" (ok (compared 6 equal (compared 2 equal (key_at 1 "a") (key_at 4 "b")) (key_at 8 "c")))
    ∷ on "a&&(b||c)" (ok (joined 1 and_also (key_at 0 "a") (joined 5 or_else (key_at 4 "b") (key_at 7 "c"))))
    ∷ on "!(a==b)" (ok (prefixed 0 not_sign (compared 3 equal (key_at 2 "a") (key_at 5 "b"))))
    -- "One trailing ";" is allowed, at top level only": it makes no node
    ∷ on "a;" (ok (key_at 0 "a"))
    ∷ on "a;b;" (ok (joined 1 sequel (key_at 0 "a") (key_at 2 "b")))
    ∷ []

-- 8: "first token that no sentence could continue with, or text ends too soon": the token, or the text's length
abbrev pub stops_at : ℕ → Answer Tree
stops_at place = refused 8 in_text place

abbrev pub no_sentences : List (OnText Tree)
no_sentences =
    -- where an operand must stand
    on "" (stops_at 0)
    ∷ on "  " (stops_at 2)
    ∷ on ")" (stops_at 0)
    ∷ on ";" (stops_at 0)
    ∷ on "->a" (stops_at 0)
    ∷ on "==a" (stops_at 0)
    ∷ on "'q'" (stops_at 0)
    ∷ on "a;;b" (stops_at 2)
    ∷ on "a-> " (stops_at 4)
    ∷ on "a||" (stops_at 3)
    ∷ on "a&&" (stops_at 3)
    ∷ on "a==" (stops_at 3)
    ∷ on "a<)" (stops_at 2)
    ∷ on "!" (stops_at 1)
    ∷ on "-;" (stops_at 1)
    ∷ on "(" (stops_at 1)
    ∷ on "()" (stops_at 1)
    -- after an operand
    ∷ on "a b" (stops_at 2)
    ∷ on "a 1" (stops_at 2)
    ∷ on "1 a" (stops_at 2)
    ∷ on "a 'q'" (stops_at 2)
    ∷ on "a(b" (stops_at 1)
    ∷ on "a!b" (stops_at 1)
    ∷ on "a-1" (stops_at 1)
    ∷ on "a)" (stops_at 1)
    ∷ on "true(" (stops_at 4)
    ∷ on "true::a" (stops_at 4)
    ∷ on "1::a" (stops_at 1)
    ∷ on "(a)::b" (stops_at 3)
    ∷ on "a::b::c" (stops_at 4)
    -- "at most once", "one comparison at most"
    ∷ on "a->b->c" (stops_at 4)
    ∷ on "a==b==c" (stops_at 4)
    ∷ on "a<b>c" (stops_at 3)
    -- after "::"
    ∷ on "a::" (stops_at 3)
    ∷ on "a::1" (stops_at 3)
    ∷ on "a::'q'" (stops_at 3)
    ∷ on "a::;" (stops_at 3)
    ∷ on "a::b.c" (stops_at 3)
    ∷ on "::" (stops_at 2)
    ∷ on "::1" (stops_at 2)
    ∷ on "::b.c" (stops_at 2)
    -- before ")"
    ∷ on "(a" (stops_at 2)
    ∷ on "(a;)" (stops_at 3)
    ∷ on "(a b)" (stops_at 3)
    ∷ on "(a(" (stops_at 2)
    ∷ on "(1::" (stops_at 2)
    ∷ on "(a))" (stops_at 3)
    -- in an address
    ∷ on "ipv4(" (stops_at 5)
    ∷ on "ipv4(a)" (stops_at 5)
    ∷ on "ipv4(1)" (stops_at 5)
    ∷ on "ipv4()" (stops_at 5)
    ∷ on "ipv4('1.2.3.4'" (stops_at 14)
    ∷ on "ipv4('1.2.3.4' a" (stops_at 15)
    ∷ on "ipv4('1.2.3.4';" (stops_at 14)
    ∷ on "ipv5('1.2.3.4')" (stops_at 4)
    -- at most one trailing ";"
    ∷ on "a;;" (stops_at 2)
    ∷ on "a;b;;" (stops_at 4)
    -- 10: "bad address string", its quote. "In a stage the earliest place wins"
    ∷ on "ipv4('x')" (refused 10 in_text 5)
    ∷ on "a;mac( '')" (refused 10 in_text 7)
    ∷ on "ipv4('x'" (refused 10 in_text 5)
    ∷ on "ipv4('x') b" (refused 10 in_text 5)
    ∷ on "a b ipv4('x')" (stops_at 2)
    ∷ []

-- how many nodes a tree has
abbrev pub sizes : List (OnText ℕ)
sizes =
    on "true" (ok 1)
    ∷ on "12" (ok 1)
    ∷ on "ipv4('1.2.3.4')" (ok 1)
    ∷ on "a" (ok 1)
    ∷ on "a::b" (ok 1)
    ∷ on "::b" (ok 1)
    ∷ on "((a))" (ok 1)
    ∷ on "!a" (ok 2)
    ∷ on "--a" (ok 3)
    ∷ on "a;b" (ok 3)
    ∷ on "a==b" (ok 3)
    ∷ on "!a==(b;c;d)" (ok 8)
    ∷ []

-- the place of each sort of node, as the root in a parenthesis
abbrev pub places : List (OnText ℕ)
places =
    on "(true)" (ok 1)
    ∷ on "(12)" (ok 1)
    ∷ on "(a)" (ok 1)
    ∷ on "(a::b)" (ok 1)
    ∷ on "(::b)" (ok 1)
    ∷ on "( !a)" (ok 2)
    ∷ on "(a;b)" (ok 2)
    ∷ on "(a==b)" (ok 2)
    ∷ []

pub record TreeExamples : Type 0 where
  pub of_atoms : AgreeOnTexts tree atoms
  pub of_operators : AgreeOnTexts tree operators
  pub of_the_ladder : AgreeOnTexts tree ladder
  pub of_no_sentence : AgreeOnTexts tree no_sentences
  pub nodes_counted : AgreeOnTexts read_answer sizes
  pub roots_placed : AgreeOnTexts (λ text. tree text >>= λ t. ok (place_of t)) places
