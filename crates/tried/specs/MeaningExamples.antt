-- 01, "Types and meaning", the meaning, by example: each operator on each pair of values, matches equal in all fields, and numbers that
-- meet a width.
use Rattle.std.specs.Prelude.{ℕ, ◌+◌, ◌^◌, ◌≡◌, Bool, true, false, List, [], ◌∷◌, ◌++◌, drop}
use Prim.Native.String as S
use Rattle.paper.specs.Answers.{ok, refused, in_entry}
use Rattle.paper.specs.Numbers.{big_endian}
use Rattle.paper.specs.Tokens.{bytes}
use Rattle.paper.specs.Keys.{key_record, exact, ternary, lpm, range, optional}
use Rattle.paper.specs.Meaning.{one_value}
use Rattle.paper.specs.Calls.{judge_answer}
use Rattle.tried.specs.MarkedJudgements.{Case, accepted, violated, the_keys, the_entry, AreJudged}
use Rattle.tried.specs.Examples.{on, Agree, On, rows, table_of, judged_mark}
use Rattle.tried.specs.EntryExamples.{match}
use Rattle.paper.specs.Entry.{match_record}

-- which pairs of operands an operator holds of
abbrev pub holds_of : List ℕ → List ℕ → List S.String → S.String → List (List ℕ)
holds_of list entry operands operator = table_of judged_mark (λ text. judge_answer text list entry) operands operator

-- an entry without keys
abbrev pub no_keys : List ℕ
no_keys = big_endian 4 0

-- bools: the left one by row, the right one by column, both false and true

abbrev pub of_bools : S.String → List (List ℕ)
of_bools operator = holds_of [] no_keys ("false" ∷ "true" ∷ []) operator

pub record Bools : Type 0 where
  pub sequel : of_bools ";" ≡ rows (".." ∷ ".x" ∷ [])
  pub and : of_bools "&&" ≡ rows (".." ∷ ".x" ∷ [])
  pub or : of_bools "||" ≡ rows (".x" ∷ "xx" ∷ [])
  pub implies : of_bools "->" ≡ rows ("xx" ∷ ".x" ∷ [])
  pub equal : of_bools "==" ≡ rows ("x." ∷ ".x" ∷ [])
  pub unequal : of_bools "!=" ≡ rows (".x" ∷ "x." ∷ [])

-- ints, from -2 to 2: "Whole numbers up to 2^128 − 1 with a sign are held exactly"

abbrev pub of_ints : S.String → List (List ℕ)
of_ints operator = holds_of [] no_keys ("-2" ∷ "-1" ∷ "0" ∷ "1" ∷ "2" ∷ []) operator

pub record Ints : Type 0 where
  pub equal : of_ints "==" ≡ rows ("x...." ∷ ".x..." ∷ "..x.." ∷ "...x." ∷ "....x" ∷ [])
  pub unequal : of_ints "!=" ≡ rows (".xxxx" ∷ "x.xxx" ∷ "xx.xx" ∷ "xxx.x" ∷ "xxxx." ∷ [])
  pub greater : of_ints ">" ≡ rows ("....." ∷ "x...." ∷ "xx..." ∷ "xxx.." ∷ "xxxx." ∷ [])
  pub at_least : of_ints ">=" ≡ rows ("x...." ∷ "xx..." ∷ "xxx.." ∷ "xxxx." ∷ "xxxxx" ∷ [])
  pub less : of_ints "<" ≡ rows (".xxxx" ∷ "..xxx" ∷ "...xx" ∷ "....x" ∷ "....." ∷ [])
  pub at_most : of_ints "<=" ≡ rows ("xxxxx" ∷ ".xxxx" ∷ "..xxx" ∷ "...xx" ∷ "....x" ∷ [])

-- three keys of one kind and width 8, with their records in the entry

abbrev pub three : ℕ → List ℕ
three kind = key_record (bytes "a") kind 8 ++ key_record (bytes "b") kind 8 ++ key_record (bytes "c") kind 8

abbrev pub of_keys : ℕ → List ℕ → List ℕ → List ℕ → S.String → List (List ℕ)
of_keys kind a b c operator = holds_of (three kind) (big_endian 4 0 ++ a ++ b ++ c) ("a" ∷ "b" ∷ "c" ∷ []) operator

-- bit<W> and bit<W>: 4, 5 and 255
abbrev pub of_bits : S.String → List (List ℕ)
of_bits operator = of_keys 0 (match_record 1 0 4 0) (match_record 1 0 5 0) (match_record 1 0 255 0) operator

pub record Bits : Type 0 where
  pub equal : of_bits "==" ≡ rows ("x.." ∷ ".x." ∷ "..x" ∷ [])
  pub unequal : of_bits "!=" ≡ rows (".xx" ∷ "x.x" ∷ "xx." ∷ [])
  pub greater : of_bits ">" ≡ rows ("..." ∷ "x.." ∷ "xx." ∷ [])
  pub at_least : of_bits ">=" ≡ rows ("x.." ∷ "xx." ∷ "xxx" ∷ [])
  pub less : of_bits "<" ≡ rows (".xx" ∷ "..x" ∷ "..." ∷ [])
  pub at_most : of_bits "<=" ≡ rows ("xxx" ∷ ".xx" ∷ "..x" ∷ [])

-- "equal types (equal in all fields)": a against b, which differs in the first field, and against c, which differs in the second
abbrev pub only_self : List (List ℕ)
only_self = rows ("x.." ∷ ".x." ∷ "..x" ∷ [])

pub record Matches : Type 0 where
  pub ternary : of_keys 1 (match_record 1 0 0x20 0xF0) (match_record 1 0 0x30 0xF0) (match_record 1 0 0x20 0xF1) "==" ≡ only_self
  pub lpm : of_keys 2 (match_record 1 2 0xC0 0) (match_record 1 2 0x80 0) (match_record 1 3 0xC0 0) "==" ≡ only_self
  pub range : of_keys 3 (match_record 1 0 4 9) (match_record 1 0 5 9) (match_record 1 0 4 8) "==" ≡ only_self
  pub optional : of_keys 4 (match_record 1 0 0 255) (match_record 1 0 9 255) (match_record 1 0 0 0) "==" ≡ only_self
  pub unequal : of_keys 1 (match_record 1 0 0x20 0xF0) (match_record 1 0 0x30 0xF0) (match_record 1 0 0x20 0xF0) "!=" ≡ rows (".x." ∷ "x.x" ∷ ".x." ∷ [])

-- on the marked entry
abbrev pub marked : List Case
marked =
    -- each field, and the priority
    accepted "v::value == 1"
    ∷ accepted "d::value == 0x20"
    ∷ accepted "d::mask == 0xf0"
    ∷ accepted "p::value == 0xc0"
    ∷ accepted "p::prefix_length == 2"
    ∷ accepted "r::low == 80"
    ∷ accepted "r::high == 443"
    ∷ accepted "o::value == 0"
    ∷ accepted "o::mask == 0"
    ∷ accepted "::priority == 10"
    -- "!", and "-" of an int and of bit<W>, "modulo 2^W"
    ∷ violated "!true"
    ∷ accepted "!false"
    ∷ accepted "--2 == 2"
    ∷ violated "-2 == 2"
    ∷ accepted "-0 == 0"
    ∷ accepted "-d::mask == 16"
    ∷ accepted "-d::value == 0xe0"
    ∷ accepted "-o::value == 0"
    ∷ accepted "-v == 1"
    ∷ accepted "--r::low == 80"
    -- "An int meeting width W is reduced modulo 2^W first."
    ∷ accepted "d::mask == 240"
    ∷ accepted "d::mask == -16"
    ∷ violated "d::mask == 241"
    ∷ accepted "d::mask < -1"
    ∷ accepted "-1 >= d::mask"
    ∷ violated "-1 < v::value"
    -- ints stay whole among themselves
    ∷ violated "496 == 240"
    ∷ violated "p::prefix_length == 258"
    ∷ accepted "::priority > -1"
    ∷ accepted "340282366920938463463374607431768211455 > 340282366920938463463374607431768211454"
    -- bit<W> meets a bare key of that W
    ∷ violated "d == d::value"
    ∷ accepted "d != d::value"
    ∷ violated "p::value == p"
    ∷ []

-- "Other ints, such as prefix lengths, are still reduced" (02 j): the marked entry with another priority. 496 is 240 modulo 2^8, and 0 modulo
-- 2^4 and 2; prefix length 2 is 0 modulo 2

abbrev pub with_priority : ℕ → List ℕ
with_priority n = big_endian 4 n ++ drop 4 the_entry

abbrev pub reduced : List Case
reduced =
    accepted "d::mask == ::priority"
    ∷ accepted "::priority == d::mask"
    ∷ accepted "-d::mask == -::priority"
    ∷ violated "d::mask == -::priority"
    ∷ accepted "o::mask == ::priority"
    ∷ accepted "o::mask == -::priority"
    ∷ accepted "d::mask >= ::priority"
    ∷ accepted "v::value > ::priority"
    ∷ accepted "v::value > p::prefix_length"
    -- ints stay whole among themselves
    ∷ violated "::priority == 240"
    ∷ accepted "::priority == 496"
    ∷ []

-- each key with the match of one value: "A number meeting a bare key becomes the match of that one value: mask all ones, prefix length
-- W, or low equal to high." The priority is reduced first: it is 443 modulo 2^16, 0xBB modulo 2^8, and minus it is 5 modulo 2^4

abbrev pub one_each : List ℕ
one_each =
    big_endian 4 (2 ^ 16 + 443)
    ++ match_record 1 0 0 0
    ++ match_record 1 0 0xBB 0xFF
    ++ match_record 1 8 0xC1 0
    ++ match_record 1 0 443 443
    ++ match_record 1 0 5 15

abbrev pub one_values : List Case
one_values =
    accepted "v == 0"
    ∷ violated "v == 1"
    ∷ accepted "v == p::prefix_length"
    ∷ accepted "d == 0xbb"
    ∷ accepted "0xbb == d"
    ∷ accepted "d == ::priority"
    ∷ accepted "d == d::value"
    ∷ violated "d == 0xba"
    ∷ accepted "d != 0xba"
    ∷ accepted "p == 0xc1"
    ∷ accepted "p::value == p"
    ∷ violated "p == 0xc0"
    ∷ accepted "r == 443"
    ∷ accepted "::priority == r"
    ∷ accepted "r == r::high"
    ∷ violated "r == 442"
    ∷ violated "r == 444"
    ∷ accepted "o == 5"
    ∷ accepted "-::priority == o"
    ∷ violated "o == 4"
    ∷ []

-- and the match itself, number by number
pub record OneValue : Type 0 where
  pub bits : one_value exact 8 5 ≡ match 5 0 0
  pub masked : one_value ternary 8 5 ≡ match 5 255 0
  pub prefixed : one_value lpm 8 5 ≡ match 5 0 8
  pub ranged : one_value range 8 5 ≡ match 5 5 0
  pub optionally : one_value optional 4 5 ≡ match 5 15 0

-- 02 b, "Our controller sent 443 to 443": port r of 16 bits, of one port and of its neighbours. 0 to 0 is the one port 0, and an absent
-- key, which has the same numbers, is every port

abbrev pub ports : ℕ → ℕ → ℕ → List ℕ
ports present low high = big_endian 4 0 ++ match_record present 0 low high

abbrev pub IsJudged : S.String → List (On Bool) → Type 0
IsJudged text es = Agree (judge_answer (bytes text) (key_record (bytes "r") 3 16)) es

abbrev pub of_port443 : List (On Bool)
of_port443 =
    on (ports 1 443 443) (ok true)
    ∷ on (ports 1 443 444) (ok false)
    ∷ on (ports 1 442 443) (ok false)
    ∷ on (ports 1 444 444) (ok false)
    ∷ on (ports 1 444 443) (refused 20 in_entry 4)
    ∷ []

abbrev pub of_port0 : List (On Bool)
of_port0 =
    on (ports 1 0 0) (ok true)
    ∷ on (ports 0 0 0) (ok false)
    ∷ on (ports 1 0 1) (ok false)
    ∷ []

pub record Ports : Type 0 where
  pub port_443 : IsJudged "r == 443" of_port443
  pub port_0 : IsJudged "r == 0" of_port0

-- absent keys: "It reads as value 0 with mask 0, prefix length 0, or low 0 with high 2^W − 1."

abbrev pub absent_each : List ℕ
absent_each =
    big_endian 4 0 ++ match_record 1 0 0 0 ++ match_record 0 0 0 0 ++ match_record 0 0 0 0 ++ match_record 0 0 0 0 ++ match_record 0 0 0 0

abbrev pub absent_values : List Case
absent_values =
    accepted "d::value == 0 && d::mask == 0"
    ∷ accepted "p::value == 0 && p::prefix_length == 0"
    ∷ accepted "r::low == 0 && r::high == 65535"
    ∷ accepted "o::value == 0 && o::mask == 0"
    ∷ violated "d == 0"
    ∷ violated "p == 0"
    ∷ violated "r == 0"
    ∷ violated "o == 0"
    ∷ []

pub record MeaningExamples : Type 0 where
  pub bools : Bools
  pub ints : Ints
  pub bits : Bits
  pub matches : Matches
  pub on_the_marked_entry : AreJudged the_keys the_entry marked
  pub of_ints_reduced : AreJudged the_keys (with_priority 496) reduced
  pub of_one_value : AreJudged the_keys one_each one_values
  pub one_value_lem : OneValue
  pub of_ports : Ports
  pub of_absent_keys : AreJudged the_keys absent_each absent_values
