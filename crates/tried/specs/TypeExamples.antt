-- 01, "Types and meaning", the types, by example: every pair of operand types under every operator, every field of every kind, and the
-- places of refusals 11 to 14.
use Rattle.std.specs.Prelude.{ℕ, ◌≡◌, List, [], ◌∷◌, ◌++◌, map, replicate}
use Prim.Native.String as S
use Rattle.paper.specs.Answers.{Answer, ok, refused, in_text}
use Rattle.paper.specs.Tokens.{bytes}
use Rattle.paper.specs.Calls.{check_answer}
use Rattle.tried.specs.Examples.{on, OnText, AgreeOnTexts, rows, table_of, pass_mark}
use Rattle.paper.specs.Keys.{key_record}

-- a key of each kind and width 8, and two of width 4
abbrev pub kinds : List ℕ
kinds =
    key_record (bytes "e") 0 8
    ++ key_record (bytes "t") 1 8
    ++ key_record (bytes "l") 2 8
    ++ key_record (bytes "r") 3 8
    ++ key_record (bytes "o") 4 8
    ++ key_record (bytes "f") 0 4
    ++ key_record (bytes "u") 1 4

abbrev pub check : List ℕ → Answer (Unit {0})
check text = check_answer text kinds

-- bool, int, bit<8>, bit<4>, ternary of 8 and of 4, lpm, range and optional of 8
abbrev pub operands : List S.String
operands = "true" ∷ "1" ∷ "e" ∷ "f" ∷ "t" ∷ "u" ∷ "l" ∷ "r" ∷ "o" ∷ []

abbrev pub types_under : S.String → List (List ℕ)
types_under operator = table_of (pass_mark 13) check operands operator

-- ""==" and "!=" take equal types (equal in all fields), int with bit<W> or a bare key, or bit<W> with a bare key of that W."
-- "A bool never meets a number."
abbrev pub equality : List (List ℕ)
equality =
    rows
    ("x........"
    ∷ ".xxxxxxxx"
    ∷ ".xx.x.xxx"
    ∷ ".x.x.x..."
    ∷ ".xx.x...."
    ∷ ".x.x.x..."
    ∷ ".xx...x.."
    ∷ ".xx....x."
    ∷ ".xx.....x"
    ∷ [])

-- "Ordering takes int and int, bit<W> and bit<W>, or int and bit<W>."
abbrev pub ordering : List (List ℕ)
ordering =
    rows
    ("........."
    ∷ ".xxx....."
    ∷ ".xx......"
    ∷ ".x.x....."
    ∷ "........."
    ∷ "........."
    ∷ "........."
    ∷ "........."
    ∷ "........."
    ∷ [])

-- "The joins take bools.": bool, int, bit<8>, ternary of 8

abbrev pub joined_under : S.String → List (List ℕ)
joined_under operator = table_of (pass_mark 13) check ("true" ∷ "1" ∷ "e" ∷ "t" ∷ []) operator

abbrev pub joining : List (List ℕ)
joining = rows ("x..." ∷ "...." ∷ "...." ∷ "...." ∷ [])

abbrev pub passed : Answer (Unit {0})
passed = ok tt

abbrev pub refused_in : ℕ → ℕ → Answer (Unit {0})
refused_in number place = refused number in_text place

-- ""!" takes bool. "-" takes int, or bit<W> modulo 2^W."
abbrev pub prefixes : List (OnText (Unit {0}))
prefixes =
    on "!true" passed
    ∷ on "!!true" passed
    ∷ on "!1" (refused_in 13 0)
    ∷ on "!e" (refused_in 13 0)
    ∷ on "!t" (refused_in 13 0)
    ∷ on "-true" (refused_in 13 0)
    ∷ on "-1 == -1" passed
    ∷ on "-e == e" passed
    ∷ on "-e == t" passed
    ∷ on "-e == f" (refused_in 13 3)
    ∷ on "-e == true" (refused_in 13 3)
    ∷ on "-t == t" (refused_in 13 0)
    ∷ on "-l == l" (refused_in 13 0)
    ∷ on "-r == r" (refused_in 13 0)
    ∷ on "-o == o" (refused_in 13 0)
    ∷ []

-- "Fields are those of 004's table": each kind's name with each field's, and what such a field may be compared with

abbrev pub key_names : List S.String
key_names = "e" ∷ "t" ∷ "l" ∷ "r" ∷ "o" ∷ []

abbrev pub field_names : List S.String
field_names = "::value" ∷ "::mask" ∷ "::prefix_length" ∷ "::low" ∷ "::high" ∷ []

-- 12 stands at the field's name, after "::"
abbrev pub fields_of : S.String → List ℕ
fields_of k = map (λ f. pass_mark 12 3 (check (bytes k ++ bytes f ++ bytes "==1"))) field_names

abbrev pub fields : List (List ℕ)
fields =
    rows
    ("x...."
    ∷ "xx..."
    ∷ "x.x.."
    ∷ "...xx"
    ∷ "xx..."
    ∷ [])

abbrev pub names : List (OnText (Unit {0}))
names =
    -- fields are bit<W>, and prefix_length is int
    on "e::value == e" passed
    ∷ on "e::value == f" (refused_in 13 9)
    ∷ on "t::value == f" (refused_in 13 9)
    ∷ on "t::mask == e" passed
    ∷ on "t::mask == f" (refused_in 13 8)
    ∷ on "l::value == f" (refused_in 13 9)
    ∷ on "l::prefix_length == e" passed
    ∷ on "l::prefix_length == f" passed
    ∷ on "r::low == e" passed
    ∷ on "r::low == f" (refused_in 13 7)
    ∷ on "r::high == f" (refused_in 13 8)
    ∷ on "o::value == f" (refused_in 13 9)
    ∷ on "o::mask == f" (refused_in 13 8)
    ∷ on "f::value == f" passed
    ∷ on "u::mask == f" passed
    -- no other name
    ∷ on "e::valu == 1" (refused_in 12 3)
    ∷ on "e::values == 1" (refused_in 12 3)
    ∷ on "t::Mask == 1" (refused_in 12 3)
    ∷ on "t:: priority == 1" (refused_in 12 4)
    -- "::priority is int."
    ∷ on "::priority == e" passed
    ∷ on "::priority == u" passed
    ∷ on "::priority < 1" passed
    ∷ on "::priority == true" (refused_in 13 11)
    ∷ on "::prio == 1" (refused_in 12 2)
    ∷ on ":: value == 1" (refused_in 12 3)
    ∷ []

-- "Operands are typed left, right, then the operator. An operator is judged only when its operands have types."
abbrev pub order : List (OnText (Unit {0}))
order =
    on "z == y" (refused_in 11 0)
    ∷ on "1 == y" (refused_in 11 5)
    ∷ on "1 && y" (refused_in 11 5)
    ∷ on "z::mask == y" (refused_in 11 0)
    ∷ on "e::mask == y" (refused_in 12 3)
    ∷ on "z::foo" (refused_in 11 0)
    ∷ on "!-z" (refused_in 11 2)
    ∷ on "!1 == z" (refused_in 13 0)
    ∷ on "1 && true && z" (refused_in 13 2)
    ∷ on "true && (1; true)" (refused_in 13 10)
    ∷ on "true == (true < z)" (refused_in 11 16)
    ∷ []

-- 14: "whole text not bool", root's place
abbrev pub roots : List (OnText (Unit {0}))
roots =
    on "true" passed
    ∷ on "!true" passed
    ∷ on "true; false" passed
    ∷ on "1 == 1" passed
    ∷ on " 1" (refused_in 14 1)
    ∷ on "(1)" (refused_in 14 1)
    ∷ on "e" (refused_in 14 0)
    ∷ on "t" (refused_in 14 0)
    ∷ on " ( - 1 )" (refused_in 14 3)
    ∷ on "(e::value)" (refused_in 14 1)
    ∷ on "(::priority)" (refused_in 14 1)
    ∷ on "(ipv4('1.2.3.4'))" (refused_in 14 1)
    ∷ on "1; true" (refused_in 13 1)
    ∷ []

pub record TypeExamples : Type 0 where
  pub equal_types : map types_under ("==" ∷ "!=" ∷ []) ≡ replicate 2 equality
  pub ordered_types : map types_under (">" ∷ ">=" ∷ "<" ∷ "<=" ∷ []) ≡ replicate 4 ordering
  pub joined_types : map joined_under (";" ∷ "->" ∷ "||" ∷ "&&" ∷ []) ≡ replicate 4 joining
  pub prefixed_types : AgreeOnTexts check prefixes
  pub fields_of_kinds : map fields_of key_names ≡ fields
  pub names_known : AgreeOnTexts check names
  pub in_order : AgreeOnTexts check order
  pub of_the_root : AgreeOnTexts check roots
