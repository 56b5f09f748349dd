-- 02 j, "Numbers that lose bits", by example: both ends of the range at the widths 1, 8, 127 and 128, every kind and field, every comparison,
-- the places, what comes before it and what is not judged after it, and the numbers that are still reduced.
use Rattle.std.specs.Prelude.{ℕ, ◌≡◌, true, List, [], ◌∷◌, ◌++◌, map, replicate}
use Prim.Native.String as S
use Rattle.paper.specs.Answers.{Answer, ok, refused, in_text, in_list}
use Rattle.paper.specs.Tokens.{bytes, equal}
use Rattle.paper.specs.Keys.{key_record, exact}
use Rattle.paper.specs.Types.{mask}
use Rattle.paper.specs.Code.{push_int, push_field, convert, compare}
use Rattle.paper.specs.Blocks.{blocks_of}
use Rattle.paper.specs.Calls.{read_answer, check_answer, judge_answer, translate_answer, translate_buffer, load_answer, run_answer}
use Rattle.paper.specs.Explained.{nothing_to_show, explain_answer}
use Rattle.paper.specs.Named.{summary_answer}
use Rattle.paper.specs.Rechecking.{judged, recheck_answer}
use Rattle.tried.specs.MarkedJudgements.{Case, accepted, violated, refused_at, the_keys, the_entry, AreJudged}
use Rattle.tried.specs.TypeExamples.{check, key_names, passed, refused_in}
use Rattle.tried.specs.Examples.{on, OnText, Agree, AgreeOnTexts}

-- "its number must lie between −2^(W−1) and 2^W − 1": a number beside the exact key k of width W

abbrev pub meets : ℕ → S.String → Answer (Unit {0})
meets width number = check_answer (bytes "k == " ++ bytes number) (key_record (bytes "k") 0 width)

abbrev pub stands : S.String → OnText (Unit {0})
stands number = on number passed

abbrev pub loses : S.String → OnText (Unit {0})
loses number = on number (refused_in 23 5)

abbrev pub at_one : List (OnText (Unit {0}))
at_one =
    stands "1"
    ∷ stands "0"
    ∷ stands "-1"
    ∷ stands "-0"
    ∷ stands "--1"
    ∷ loses "2"
    ∷ loses "-2"
    ∷ loses "--2"
    ∷ loses "340282366920938463463374607431768211455"
    ∷ loses "-340282366920938463463374607431768211455"
    ∷ []

abbrev pub at_eight : List (OnText (Unit {0}))
at_eight =
    stands "255"
    ∷ stands "-128"
    ∷ stands "-0"
    ∷ stands "--255"
    ∷ stands "---128"
    ∷ stands "0xff"
    ∷ stands "0b0000000011111111"
    ∷ loses "256"
    ∷ loses "-129"
    ∷ loses "--300"
    ∷ loses "---129"
    ∷ loses "-255"
    ∷ loses "0x100"
    ∷ loses "0b100000000"
    ∷ []

abbrev pub at127 : List (OnText (Unit {0}))
at127 =
    stands "170141183460469231731687303715884105727"
    ∷ stands "-85070591730234615865843651857942052864"
    ∷ loses "170141183460469231731687303715884105728"
    ∷ loses "-85070591730234615865843651857942052865"
    ∷ []

abbrev pub at128 : List (OnText (Unit {0}))
at128 =
    stands "340282366920938463463374607431768211455"
    ∷ stands "-170141183460469231731687303715884105728"
    ∷ loses "-170141183460469231731687303715884105729"
    ∷ loses "-340282366920938463463374607431768211455"
    ∷ []

-- "a numeral or address": beside a key of as many bits as it needs, and of one less

abbrev pub bits8 : List (OnText (Unit {0}))
bits8 =
    stands "ipv4('0.0.0.255')"
    ∷ stands "-ipv4('0.0.0.128')"
    ∷ loses "ipv4('0.0.1.0')"
    ∷ loses "-ipv4('0.0.0.129')"
    ∷ []

abbrev pub bits31 : List (OnText (Unit {0}))
bits31 = stands "ipv4('127.255.255.255')" ∷ loses "ipv4('128.0.0.0')" ∷ []

abbrev pub bits32 : List (OnText (Unit {0}))
bits32 = stands "ipv4('255.255.255.255')" ∷ loses "mac('00:01:00:00:00:00')" ∷ loses "ipv6('::1:0:0')" ∷ []

abbrev pub bits47 : List (OnText (Unit {0}))
bits47 = stands "mac('7f:ff:ff:ff:ff:ff')" ∷ loses "mac('80:00:00:00:00:00')" ∷ []

abbrev pub bits48 : List (OnText (Unit {0}))
bits48 = stands "mac('ff:ff:ff:ff:ff:ff')" ∷ loses "-mac('80:00:00:00:00:01')" ∷ []

abbrev pub bits127 : List (OnText (Unit {0}))
bits127 = stands "ipv6('7fff:ffff:ffff:ffff:ffff:ffff:ffff:ffff')" ∷ loses "ipv6('8000::')" ∷ []

abbrev pub bits128 : List (OnText (Unit {0}))
bits128 =
    stands "ipv6('ffff:ffff:ffff:ffff:ffff:ffff:ffff:ffff')"
    ∷ stands "-ipv6('8000::')"
    ∷ loses "-ipv6('8000::1')"
    ∷ []

pub record AtWidths : Type 0 where
  pub one : Agree (meets 1) at_one
  pub eight : Agree (meets 8) at_eight
  pub all_but_one : Agree (meets 127) at127
  pub all : Agree (meets 128) at128
  pub narrow_address : Agree (meets 8) bits8
  pub ipv4_less_one : Agree (meets 31) bits31
  pub ipv4 : Agree (meets 32) bits32
  pub mac_less_one : Agree (meets 47) bits47
  pub mac : Agree (meets 48) bits48
  pub ipv6_less_one : Agree (meets 127) bits127
  pub ipv6 : Agree (meets 128) bits128

-- "meets width W": a bare key of each kind and each field of width 8, on either side, under each comparison that takes the two. The keys e, t,
-- l, r and o are of 8 bits, exact, ternary, lpm, range and optional; f and u of 4, exact and ternary

abbrev pub equalities : List S.String
equalities = "==" ∷ "!=" ∷ []

-- each of two bytes, so that what follows has one place
abbrev pub orders : List S.String
orders = "> " ∷ ">=" ∷ "< " ∷ "<=" ∷ []

abbrev pub fields : List S.String
fields =
    "e::value" ∷ "t::value" ∷ "t::mask" ∷ "l::value" ∷ "r::low" ∷ "r::high" ∷ "o::value" ∷ "o::mask" ∷ []

-- a number on the left of each of these
abbrev pub left_of : List S.String → List S.String → S.String → List (List (Answer (Unit {0})))
left_of operators others number = map (λ o. map (λ k. check (bytes number ++ bytes o ++ bytes k)) others) operators

-- and on the right of each key, whose name is one byte
abbrev pub right_of : List S.String → List S.String → S.String → List (List (Answer (Unit {0})))
right_of operators others number = map (λ o. map (λ k. check (bytes k ++ bytes o ++ bytes number)) others) operators

abbrev pub everywhere : ℕ → ℕ → Answer (Unit {0}) → List (List (Answer (Unit {0})))
everywhere rows columns a = replicate rows (replicate columns a)

pub record Sides : Type 0 where
  pub keys_pass : map (right_of equalities key_names) ("255" ∷ "-128" ∷ []) ≡ replicate 2 (everywhere 2 5 passed)
  pub keys_refuse : map (right_of equalities key_names) ("256" ∷ "-129" ∷ []) ≡ replicate 2 (everywhere 2 5 (refused_in 23 3))
  pub left_of_keys : map (left_of equalities key_names) ("256" ∷ "-129" ∷ []) ≡ replicate 2 (everywhere 2 5 (refused_in 23 0))
  pub fields_pass : map (left_of equalities fields) ("255" ∷ "-128" ∷ []) ≡ replicate 2 (everywhere 2 8 passed)
  pub fields_refuse : map (left_of equalities fields) ("256" ∷ "-129" ∷ []) ≡ replicate 2 (everywhere 2 8 (refused_in 23 0))
  pub orders_pass : map (left_of orders fields) ("255" ∷ "-128" ∷ []) ≡ replicate 2 (everywhere 4 8 passed)
  pub orders_refuse : map (left_of orders fields) ("256" ∷ "-129" ∷ []) ≡ replicate 2 (everywhere 4 8 (refused_in 23 0))
  pub exact_orders : map (right_of orders ("e" ∷ [])) ("255" ∷ "256" ∷ []) ≡ everywhere 4 1 passed ∷ everywhere 4 1 (refused_in 23 3) ∷ []

-- "at the operand's place": its outermost minus, or the numeral or address itself, inside parentheses
abbrev pub places : List (OnText (Unit {0}))
places =
    on "e == 256" (refused_in 23 5)
    ∷ on "256 == e" (refused_in 23 0)
    ∷ on "e == (256)" (refused_in 23 6)
    ∷ on "e == ((256))" (refused_in 23 7)
    ∷ on "(256) == e" (refused_in 23 1)
    ∷ on "e == (255)" passed
    ∷ on "e == -129" (refused_in 23 5)
    ∷ on "e == (-129)" (refused_in 23 6)
    ∷ on "e == -(129)" (refused_in 23 5)
    ∷ on "e == -(-256)" (refused_in 23 5)
    ∷ on "e == - - 256" (refused_in 23 5)
    ∷ on " ( - ( 129 ) ) == e" (refused_in 23 3)
    ∷ on "e == -(-(-(128)))" passed
    ∷ on "e == (ipv4('0.0.1.0'))" (refused_in 23 6)
    ∷ on "mac('00:00:00:00:01:00') == e" (refused_in 23 0)
    -- the other operand may be built of anything
    ∷ on "-e == 256" (refused_in 23 6)
    ∷ on "-e::value >= -129" (refused_in 23 13)
    ∷ on "(e) == 256" (refused_in 23 7)
    ∷ on "u == 16" (refused_in 23 5)
    ∷ on "u::mask == -9" (refused_in 23 11)
    ∷ on "u == 15 && f == -8" passed
    ∷ []

-- an int beside an int meets no width; "Other ints, such as prefix lengths, are still reduced"
abbrev pub others : List (OnText (Unit {0}))
others =
    on "256 == 256" passed
    ∷ on "-300 < 340282366920938463463374607431768211455" passed
    ∷ on "::priority == 5000000000" passed
    ∷ on "l::prefix_length == 300" passed
    ∷ on "-300 == l::prefix_length" passed
    ∷ on "f == l::prefix_length" passed
    ∷ on "-l::prefix_length < f" passed
    ∷ on "u == ::priority" passed
    ∷ on "-::priority == u" passed
    ∷ on "-e == e" passed
    ∷ on "e::value == t" passed
    ∷ []

-- "in the type stage, once both operands have types that suit the operator"; "In a stage the earliest place wins"
abbrev pub before : List (OnText (Unit {0}))
before =
    -- 13 of the comparison itself
    on "t > 256" (refused_in 13 2)
    ∷ on "256 <= t" (refused_in 13 4)
    ∷ on "true == 256" (refused_in 13 5)
    ∷ on "t::mask > 256" (refused_in 23 10)
    -- 11 and 12 of the other operand
    ∷ on "z == 256" (refused_in 11 0)
    ∷ on "256 == z" (refused_in 11 7)
    ∷ on "256 == e::mask" (refused_in 12 10)
    -- 11, 12 and 13 elsewhere, before it and after it
    ∷ on "z == 1 && e == 256" (refused_in 11 0)
    ∷ on "e == 256 && z == 1" (refused_in 23 5)
    ∷ on "e::mask == 1; e == 256" (refused_in 12 3)
    ∷ on "e == 256; e::mask == 1" (refused_in 23 5)
    ∷ on "t > 3 || e == 256" (refused_in 13 2)
    ∷ on "e == 256 || t > 3" (refused_in 23 5)
    ∷ on "!1 || e == 256" (refused_in 13 0)
    -- two of them
    ∷ on "e == 256 && f == 16" (refused_in 23 5)
    ∷ on "f == 16 && e == 256" (refused_in 23 5)
    ∷ on "-129 == e -> 256 == e" (refused_in 23 0)
    ∷ on "e == 255 && f == 16" (refused_in 23 17)
    -- earlier stages: 6 and 8
    ∷ on "e == 340282366920938463463374607431768211456" (refused_in 6 5)
    ∷ on "e == 256 == 1" (refused_in 8 9)
    ∷ []

-- "such a comparison has no type, so nothing above it is judged", beside the same with a number that stands
abbrev pub above : List (OnText (Unit {0}))
above =
    on "!(t::mask == 256) && 1" (refused_in 23 13)
    ∷ on "!(t::mask == 255) && 1" (refused_in 13 18)
    ∷ on "!(e == 256)" (refused_in 23 7)
    ∷ on "!(e == 255)" passed
    ∷ on "-(e == 256)" (refused_in 23 7)
    ∷ on "-(e == 255)" (refused_in 13 0)
    ∷ on "(e == 256) == 1" (refused_in 23 6)
    ∷ on "(e == 255) == 1" (refused_in 13 11)
    ∷ on "1 -> e == 256" (refused_in 23 10)
    ∷ on "1 -> e == 255" (refused_in 13 2)
    ∷ on "true && (true && (e == 256 || false))" (refused_in 23 23)
    -- 14 is of a text whose root has a type
    ∷ on "e == 256" (refused_in 23 5)
    ∷ on "256" (refused_in 14 0)
    ∷ on "-256" (refused_in 14 0)
    ∷ []

-- with the marked keys and entry: priority 10, v 1 of 1 bit, d 0x20 mask 0xF0 and p 0xC0 length 2 of 8
abbrev pub marked : List Case
marked =
    -- the words of 02 j, and case 9, which "is unchanged for −1 at width 1"
    refused_at "d::mask == 0x1f0" 23 11
    ∷ refused_at "0x1f0 == d::mask" 23 0
    ∷ refused_at "d == 0x1f0" 23 5
    ∷ refused_at "0x1f0 == d" 23 0
    ∷ refused_at "d > 0x1f0" 13 2
    ∷ accepted "d::mask == 0xf0"
    ∷ accepted "d::mask == -16"
    ∷ violated "-1 < v::value"
    ∷ refused_at "-2 < v::value" 23 0
    ∷ refused_at "v == 3" 23 5
    ∷ refused_at "3 == v" 23 0
    ∷ refused_at "v == (3)" 23 6
    ∷ refused_at "v == -(-3)" 23 5
    ∷ refused_at "-v == 3" 23 6
    ∷ accepted "v == -1"
    ∷ refused_at "!(d::mask == 0x1f0) && 1" 23 13
    ∷ refused_at "zz == 1 && v == 9" 11 0
    -- a number below zero is still reduced
    ∷ accepted "p::value > -128"
    ∷ violated "d::value >= -128"
    -- and so are prefix lengths and priorities, whatever their size: 2 and 10 are 0 of 1 bit
    ∷ violated "v == p::prefix_length"
    ∷ violated "p::prefix_length > v::value"
    ∷ accepted "::priority < v::value"
    ∷ accepted "-p::prefix_length < v::value"
    ∷ violated "d == ::priority"
    ∷ []

-- every call that checks a text refuses it; a call that only reads it does not

abbrev pub lossy : List ℕ
lossy = bytes "d::mask == 0x1f0"

pub record ByCalls : Type 0 where
  pub reads : read_answer lossy ≡ ok 3
  pub checks : check_answer lossy the_keys ≡ refused 23 in_text 11
  pub judges : judge_answer lossy the_keys [] ≡ refused 23 in_text 11
  pub translates : translate_answer lossy the_keys [] ≡ refused 23 in_text 11
  pub unchanged : translate_buffer lossy the_keys (replicate 512 0xAA) ≡ replicate 512 0xAA
  pub explains : explain_answer lossy the_keys the_entry ≡ nothing_to_show (refused 23 in_text 11)
  pub summarizes : summary_answer lossy the_keys ≡ refused 23 in_text 11
  pub rechecks : recheck_answer lossy the_keys the_entry (ok true) the_entry ≡ judged (refused 23 in_text 11)
  -- a fault of the list comes first
  pub listed : check_answer lossy (bytes "d") ≡ refused 2 in_list 1

-- "Old blocks keep their meaning": the block that this text had, which says that the mask is 0xF0

abbrev pub old_block : List ℕ
old_block = blocks_of 5 (push_field mask 1 ∷ push_int 0x1f0 ∷ convert exact 8 ∷ compare equal ∷ [])

pub record OldBlock : Type 0 where
  pub loads : load_answer the_keys old_block ≡ ok 4
  pub runs : run_answer the_keys old_block the_entry ≡ ok (record { accepted = true; steps = 4 })
  pub of_the_rest : translate_buffer (bytes "d::mask == 0xf0") the_keys (replicate 512 0)
      ≡ blocks_of 5 (push_field mask 1 ∷ push_int 0xf0 ∷ convert exact 8 ∷ compare equal ∷ [])

pub record BitsExamples : Type 0 where
  pub at_widths : AtWidths
  pub on_sides : Sides
  pub at_places : AgreeOnTexts check places
  pub of_others : AgreeOnTexts check others
  pub in_order : AgreeOnTexts check before
  pub not_judged : AgreeOnTexts check above
  pub on_the_marked_entry : AreJudged the_keys the_entry marked
  pub by_calls : ByCalls
  pub of_old_block : OldBlock
