-- 02 k by example: 000's own contracts with the texts that are made of them, every opcode, each fault at its place, both sides of every limit,
-- and what contracts say of numbers.
use Rattle.std.specs.Prelude.{ℕ, zero, suc, ◌-◌, ◌^◌, ◌≡◌, Bool, true, false, List, [], ◌∷◌, ◌++◌, replicate, take}
use Rattle.paper.specs.Answers.{Answer, ok, refused, ◌>>=◌, in_list, in_buffer, in_contract, in_table}
use Rattle.paper.specs.Tokens.{bytes}
use Rattle.paper.specs.Keys.{key_record, required_key}
use Rattle.paper.specs.Pact.{Clause, contract_holds}
use Rattle.paper.specs.Contract.{clauses}
use Rattle.paper.specs.Drafting.{draftable, draft_answer, draft_buffer}
use Rattle.tried.specs.Examples.{Example, on, Agree, On, repeat, numbers_from, bytes_that}

-- names, all exact and of width 64: four, and as many as are asked for, of one letter each from "a" on

abbrev pub four_names : List ℕ
four_names = key_record (bytes "i0") 0 64 ++ key_record (bytes "i1") 0 64 ++ key_record (bytes "i2") 0 64 ++ key_record (bytes "i3") 0 64

abbrev pub letters_from : ℕ → ℕ → List ℕ
letters_from letter zero = []
letters_from letter (suc n) = key_record (letter ∷ []) 0 64 ++ letters_from (suc letter) n

abbrev pub letters : ℕ → List ℕ
letters n = letters_from 97 n

-- a table of four numbers, and a buffer that has room

abbrev pub four_numbers : List ℕ
four_numbers = 10 ∷ 20 ∷ 30 ∷ 40 ∷ []

abbrev pub room : List ℕ
room = replicate 200 0xAA

-- the text of a contract with these
abbrev pub drafts : List ℕ → Answer (List ℕ)
drafts contract = draftable contract four_numbers four_names room

-- "Example Syntax", with the bytes of its hex: "A series of independent clauses", "A multi-assertion clause followed by a single clause"
abbrev pub from_document : List (On (List ℕ))
from_document =
    on (0x00 ∷ 0x10 ∷ 0x04 ∷ 0x31 ∷ 0x48 ∷ 0x23 ∷ []) (ok (bytes "i1 == 10 ; i3 > 20 ; !(i2 >= 40)"))
    ∷ on (0x04 ∷ 0x01 ∷ 0xC0 ∷ 0x00 ∷ 0x02 ∷ 0x84 ∷ 0x68 ∷ 0x13 ∷ 0x08 ∷ 0x03 ∷ [])
    (ok (bytes "!(i0 > 20 && i0 == 30) || !(i1 >= i3) ; i0 >= 40"))
    ∷ []

-- every opcode: comparators, and a conjunction between two assertions

abbrev pub compared : List (Example ℕ (Answer (List ℕ)))
compared =
    on 0x00 (ok (bytes "i1 == 30"))
    ∷ on 0x04 (ok (bytes "i1 > 30"))
    ∷ on 0x08 (ok (bytes "i1 >= 30"))
    ∷ on 0x20 (ok (bytes "i1 == i2"))
    ∷ on 0x24 (ok (bytes "i1 > i2"))
    ∷ on 0x28 (ok (bytes "i1 >= i2"))
    ∷ on 0x40 (ok (bytes "!(i1 == 30)"))
    ∷ on 0x44 (ok (bytes "!(i1 > 30)"))
    ∷ on 0x48 (ok (bytes "!(i1 >= 30)"))
    ∷ on 0x60 (ok (bytes "!(i1 == i2)"))
    ∷ on 0x64 (ok (bytes "!(i1 > i2)"))
    ∷ on 0x68 (ok (bytes "!(i1 >= i2)"))
    ∷ []

abbrev pub conjoined : List (Example ℕ (Answer (List ℕ)))
conjoined =
    on 0x80 (ok (bytes "i0 == 10 && i1 > 20"))
    ∷ on 0x84 (ok (bytes "i0 == 10 || i1 > 20"))
    ∷ on 0x88 (ok (bytes "(i0 == 10) != (i1 > 20)"))
    ∷ on 0xC0 (ok (bytes "!(i0 == 10 && i1 > 20)"))
    ∷ on 0xC4 (ok (bytes "!(i0 == 10 || i1 > 20)"))
    ∷ on 0xC8 (ok (bytes "!((i0 == 10) != (i1 > 20))"))
    ∷ []

abbrev pub passes : Answer (List Clause) → Bool
passes (ok cs) = true
passes (refused n i at) = false

-- and no other byte is one: those that pass before an index, and those that pass between two assertions
pub record AllOpcodes : Type 0 where
  pub comparators : Agree (λ b. drafts (b ∷ 0x12 ∷ [])) compared
  pub conjunctions : Agree (λ b. drafts (0x00 ∷ 0x00 ∷ b ∷ 0x04 ∷ 0x11 ∷ [])) conjoined
  pub no_other_comparator : bytes_that (λ b. passes (clauses 16 16 (b ∷ 0x00 ∷ [])))
      ≡ 0x00 ∷ 0x04 ∷ 0x08 ∷ 0x20 ∷ 0x24 ∷ 0x28 ∷ 0x40 ∷ 0x44 ∷ 0x48 ∷ 0x60 ∷ 0x64 ∷ 0x68 ∷ []
  pub no_other_conjunction : bytes_that (λ b. passes (clauses 16 16 (0x00 ∷ 0x00 ∷ b ∷ 0x04 ∷ 0x11 ∷ [])))
      ≡ 0x80 ∷ 0x84 ∷ 0x88 ∷ 0xC0 ∷ 0xC4 ∷ 0xC8 ∷ []

-- "joined from the left"; "NOT becomes "!" over its comparison or join"; a comparator directly after an assertion begins a clause
abbrev pub joins : List (On (List ℕ))
joins =
    on (0x00 ∷ 0x00 ∷ 0x84 ∷ 0x00 ∷ 0x11 ∷ 0x80 ∷ 0x00 ∷ 0x22 ∷ []) (ok (bytes "(i0 == 10 || i1 == 20) && i2 == 30"))
    ∷ on (0x00 ∷ 0x00 ∷ 0x80 ∷ 0x00 ∷ 0x11 ∷ 0x84 ∷ 0x00 ∷ 0x22 ∷ []) (ok (bytes "i0 == 10 && i1 == 20 || i2 == 30"))
    ∷ on (0x00 ∷ 0x00 ∷ 0x88 ∷ 0x00 ∷ 0x11 ∷ 0x88 ∷ 0x00 ∷ 0x22 ∷ []) (ok (bytes "((i0 == 10) != (i1 == 20)) != (i2 == 30)"))
    ∷ on (0x40 ∷ 0x00 ∷ 0x88 ∷ 0x00 ∷ 0x11 ∷ []) (ok (bytes "!(i0 == 10) != (i1 == 20)"))
    ∷ on (0x00 ∷ 0x00 ∷ 0x80 ∷ 0x40 ∷ 0x11 ∷ []) (ok (bytes "i0 == 10 && !(i1 == 20)"))
    ∷ on (0x00 ∷ 0x00 ∷ 0xC0 ∷ 0x00 ∷ 0x11 ∷ 0xC0 ∷ 0x00 ∷ 0x22 ∷ []) (ok (bytes "!(!(i0 == 10 && i1 == 20) && i2 == 30)"))
    ∷ on (0x00 ∷ 0x00 ∷ 0x84 ∷ 0x00 ∷ 0x11 ∷ 0x00 ∷ 0x22 ∷ []) (ok (bytes "i0 == 10 || i1 == 20 ; i2 == 30"))
    ∷ []

-- 24 "at the earliest contract byte concerned, or at the length if cut"
abbrev pub contract_faults : List (On (List ℕ))
contract_faults =
    -- "IN", with either load and NOT
    on (0x0C ∷ 0x00 ∷ []) (refused 24 in_contract 0)
    ∷ on (0x2C ∷ 0x00 ∷ []) (refused 24 in_contract 0)
    ∷ on (0x4C ∷ 0x00 ∷ []) (refused 24 in_contract 0)
    -- "a nonzero reserved bit"
    ∷ on (0x01 ∷ 0x00 ∷ []) (refused 24 in_contract 0)
    ∷ on (0x02 ∷ 0x00 ∷ []) (refused 24 in_contract 0)
    ∷ on (0x00 ∷ 0x00 ∷ 0x81 ∷ 0x00 ∷ 0x00 ∷ []) (refused 24 in_contract 2)
    -- "an unused operation number"
    ∷ on (0x10 ∷ 0x00 ∷ []) (refused 24 in_contract 0)
    ∷ on (0x00 ∷ 0x00 ∷ 0x8C ∷ 0x00 ∷ 0x00 ∷ []) (refused 24 in_contract 2)
    ∷ on (0x00 ∷ 0x00 ∷ 0xBC ∷ 0x00 ∷ 0x00 ∷ []) (refused 24 in_contract 2)
    -- "an index without a user number or name", at the index
    ∷ on (0x00 ∷ 0x33 ∷ []) (ok (bytes "i3 == 40"))
    ∷ on (0x00 ∷ 0x43 ∷ []) (refused 24 in_contract 1)
    ∷ on (0x00 ∷ 0x34 ∷ []) (refused 24 in_contract 1)
    ∷ on (0x20 ∷ 0x34 ∷ []) (refused 24 in_contract 1)
    ∷ on (0x00 ∷ 0xFF ∷ []) (refused 24 in_contract 1)
    -- "a conjunction with no assertion directly before it"
    ∷ on (0x80 ∷ []) (refused 24 in_contract 0)
    ∷ on (0x80 ∷ 0x00 ∷ 0x00 ∷ []) (refused 24 in_contract 0)
    ∷ on (0x00 ∷ 0x00 ∷ 0x80 ∷ 0x84 ∷ 0x00 ∷ 0x00 ∷ []) (refused 24 in_contract 3)
    -- "a cut contract"
    ∷ on (0x00 ∷ []) (refused 24 in_contract 1)
    ∷ on (0x00 ∷ 0x00 ∷ 0x04 ∷ []) (refused 24 in_contract 3)
    ∷ on (0x00 ∷ 0x00 ∷ 0x80 ∷ []) (refused 24 in_contract 3)
    ∷ on (0x00 ∷ 0x00 ∷ 0x80 ∷ 0x04 ∷ []) (refused 24 in_contract 4)
    -- an opcode that is wrong comes before the index that it lacks
    ∷ on (0x0C ∷ []) (refused 24 in_contract 0)
    ∷ []

-- "The names come as a key list: 2 to 4 as before, and a record of another kind or width, or a 17th, is number 3 at it."

abbrev pub with_names : List ℕ → Answer (List ℕ)
with_names list = draftable (0x00 ∷ 0x00 ∷ []) four_numbers list room

abbrev pub name_lists : List (On (List ℕ))
name_lists =
    on (letters 1) (ok (bytes "a == 10"))
    ∷ on (required_key (bytes "a") 0 64) (ok (bytes "a == 10"))
    ∷ on (key_record (bytes "true.x") 0 64) (ok (bytes "true.x == 10"))
    ∷ on (key_record (bytes "mac") 0 64) (ok (bytes "mac == 10"))
    ∷ on [] (refused 24 in_contract 1)
    ∷ on (take 79 (letters 1)) (refused 2 in_list 79)
    ∷ on (letters 33) (refused 2 in_list 2640)
    ∷ on (letters 16) (ok (bytes "a == 10"))
    ∷ on (letters 17) (refused 3 in_list 1280)
    ∷ on (letters 1 ++ key_record (bytes "b") 1 64) (refused 3 in_list 80)
    ∷ on (letters 1 ++ key_record (bytes "b") 4 64) (refused 3 in_list 80)
    ∷ on (letters 1 ++ key_record (bytes "b") 0 63) (refused 3 in_list 80)
    ∷ on (letters 1 ++ key_record (bytes "b") 0 65) (refused 3 in_list 80)
    ∷ on (letters 1 ++ key_record (bytes "true") 0 64) (refused 3 in_list 80)
    ∷ on (letters 2 ++ letters 1) (refused 4 in_list 160)
    -- 3 before 4 at one record; else the earlier record
    ∷ on (letters 2 ++ key_record (bytes "a") 0 63) (refused 3 in_list 160)
    ∷ on (letters 1 ++ letters 1 ++ key_record (bytes "b") 0 63) (refused 4 in_list 80)
    ∷ on (letters 16 ++ letters 1) (refused 3 in_list 1280)
    ∷ []

-- "Then a table over 16 numbers is number 24 at table 16.", used or not
abbrev pub tables : List (On (List ℕ))
tables =
    on (numbers_from 0 16) (ok (bytes "p == 15"))
    ∷ on (numbers_from 0 15) (refused 24 in_contract 1)
    ∷ on (numbers_from 0 17) (refused 24 in_table 16)
    ∷ on (replicate 16 (2 ^ 64 - 1)) (ok (bytes "p == 18446744073709551615"))
    ∷ on (replicate 16 0) (ok (bytes "p == 0"))
    ∷ []

-- of two faults the one whose stage runs first
pub record InOrder : Type 0 where
  pub length_first : draft_answer (0x01 ∷ []) (numbers_from 0 17) (take 79 (letters 1)) [] ≡ refused 2 in_list 79
  pub names_first : draft_answer (0x01 ∷ []) (numbers_from 0 17) (letters 17) [] ≡ refused 3 in_list 1280
  pub table_first : draft_answer (0x01 ∷ []) (numbers_from 0 17) (letters 1) [] ≡ refused 24 in_table 16
  pub contract_first : draft_answer (repeat 300 (0x00 ∷ 0x00 ∷ []) ++ (0x01 ∷ [])) four_numbers (letters 1) [] ≡ refused 24 in_contract 600
  pub buffer_last : draft_answer (0x00 ∷ 0x00 ∷ []) four_numbers (letters 1) [] ≡ refused 21 in_buffer 0

-- 21, "a text .. over the lent buffer": exactly as long, and one byte short; "An empty contract gives "true"."
pub record Lent : Type 0 where
  pub exact : draft_answer (0x00 ∷ 0x00 ∷ []) four_numbers four_names (replicate 8 0xAA) ≡ ok 8
  pub exact_holds : draft_buffer (0x00 ∷ 0x00 ∷ []) four_numbers four_names (replicate 8 0xAA) ≡ bytes "i0 == 10"
  pub short : draft_answer (0x00 ∷ 0x00 ∷ []) four_numbers four_names (replicate 7 0xAA) ≡ refused 21 in_buffer 7
  pub short_unchanged : draft_buffer (0x00 ∷ 0x00 ∷ []) four_numbers four_names (replicate 7 0xAA) ≡ replicate 7 0xAA
  pub later_stays : draft_buffer (0x00 ∷ 0x00 ∷ []) four_numbers four_names (replicate 10 0xAA) ≡ bytes "i0 == 10" ++ replicate 2 0xAA
  pub empty : draft_answer [] [] [] (replicate 4 0xAA) ≡ ok 4
  pub empty_holds : draft_buffer [] [] [] (replicate 4 0xAA) ≡ bytes "true"
  pub empty_short : draft_answer [] [] [] (replicate 3 0xAA) ≡ refused 21 in_buffer 3
  pub refused_unchanged : draft_buffer (0x01 ∷ []) four_numbers four_names (replicate 4 0xAA) ≡ replicate 4 0xAA

-- 21, "A text over a limit of 01": its levels, tokens and bytes. An assertion, and then so many of them, each behind a conjunction or alone

abbrev pub chained : ℕ → ℕ → List ℕ
chained n conjunction = 0x00 ∷ 0x00 ∷ repeat n (conjunction ∷ 0x00 ∷ 0x00 ∷ [])

abbrev pub series : ℕ → List ℕ
series n = repeat n (0x00 ∷ 0x00 ∷ [])

abbrev pub size_with : List ℕ → List ℕ → Answer ℕ
size_with list contract = draft_answer contract four_numbers list (replicate 4096 0xAA)

-- "!" and its parenthesis are two levels; an exclusive or of an exclusive or is one; 256 clauses are 1,023 tokens
abbrev pub limits : List (On ℕ)
limits =
    on (chained 32 0xC0) (ok 455)
    ∷ on (chained 33 0xC0) (refused 21 in_buffer 4096)
    ∷ on (chained 64 0x88) (ok 967)
    ∷ on (chained 65 0x88) (refused 21 in_buffer 4096)
    ∷ on (series 256) (ok 2557)
    ∷ on (series 257) (refused 21 in_buffer 4096)
    ∷ []

-- a name of 64 bytes: a clause is 70 bytes, and 3 join it
abbrev pub long_limits : List (On ℕ)
long_limits = on (series 56) (ok 4085) ∷ on (series 57) (refused 21 in_buffer 4096) ∷ []

-- what a contract says of the numbers of its inputs, with those of the table

abbrev pub says : List ℕ → List ℕ → Answer Bool
says contract inputs = clauses 4 4 contract >>= λ cs. ok (contract_holds inputs four_numbers cs)

-- where both are so, the first alone, the second alone, and none
abbrev pub of_two : Bool → Bool → Bool → Bool → List (On Bool)
of_two both first second none = on (10 ∷ 20 ∷ []) (ok both) ∷ on (10 ∷ 21 ∷ []) (ok first) ∷ on (11 ∷ 20 ∷ []) (ok second) ∷ on (11 ∷ 21 ∷ []) (ok none) ∷ []

pub record Meant : Type 0 where
  -- "i == j", "i > j", "i >= j", and LT as NOT GTE
  pub equal : Agree (says (0x00 ∷ 0x00 ∷ [])) (on (9 ∷ []) (ok false) ∷ on (10 ∷ []) (ok true) ∷ on (11 ∷ []) (ok false) ∷ [])
  pub greater : Agree (says (0x04 ∷ 0x00 ∷ [])) (on (9 ∷ []) (ok false) ∷ on (10 ∷ []) (ok false) ∷ on (11 ∷ []) (ok true) ∷ [])
  pub at_least : Agree (says (0x08 ∷ 0x00 ∷ [])) (on (9 ∷ []) (ok false) ∷ on (10 ∷ []) (ok true) ∷ on (11 ∷ []) (ok true) ∷ [])
  pub not_equal : Agree (says (0x40 ∷ 0x00 ∷ [])) (on (9 ∷ []) (ok true) ∷ on (10 ∷ []) (ok false) ∷ on (11 ∷ []) (ok true) ∷ [])
  pub at_most : Agree (says (0x44 ∷ 0x00 ∷ [])) (on (9 ∷ []) (ok true) ∷ on (10 ∷ []) (ok true) ∷ on (11 ∷ []) (ok false) ∷ [])
  pub less : Agree (says (0x48 ∷ 0x00 ∷ [])) (on (9 ∷ []) (ok true) ∷ on (10 ∷ []) (ok false) ∷ on (11 ∷ []) (ok false) ∷ [])
  -- the left index is the high one
  pub input_greater : Agree (says (0x24 ∷ 0x01 ∷ [])) (on (2 ∷ 1 ∷ []) (ok true) ∷ on (1 ∷ 1 ∷ []) (ok false) ∷ on (1 ∷ 2 ∷ []) (ok false) ∷ [])
  -- whether i0 is 10, and whether i1 is 20
  pub both : Agree (says (0x00 ∷ 0x00 ∷ 0x80 ∷ 0x00 ∷ 0x11 ∷ [])) (of_two true false false false)
  pub either : Agree (says (0x00 ∷ 0x00 ∷ 0x84 ∷ 0x00 ∷ 0x11 ∷ [])) (of_two true true true false)
  pub one_only : Agree (says (0x00 ∷ 0x00 ∷ 0x88 ∷ 0x00 ∷ 0x11 ∷ [])) (of_two false true true false)
  pub not_both : Agree (says (0x00 ∷ 0x00 ∷ 0xC0 ∷ 0x00 ∷ 0x11 ∷ [])) (of_two false true true true)
  pub neither : Agree (says (0x00 ∷ 0x00 ∷ 0xC4 ∷ 0x00 ∷ 0x11 ∷ [])) (of_two false false false true)
  pub alike : Agree (says (0x00 ∷ 0x00 ∷ 0xC8 ∷ 0x00 ∷ 0x11 ∷ [])) (of_two true false false true)
  pub clauses_too : Agree (says (0x00 ∷ 0x00 ∷ 0x00 ∷ 0x11 ∷ [])) (of_two true false false false)
  pub nothing : Agree (says []) (of_two true true true true)

pub record DraftExamples : Type 0 where
  pub documents : Agree drafts from_document
  pub opcodes : AllOpcodes
  pub joined : Agree drafts joins
  pub faults : Agree drafts contract_faults
  pub names : Agree with_names name_lists
  pub with_tables : Agree (λ table. draftable (0x00 ∷ 0xFF ∷ []) table (letters 16) room) tables
  pub in_order : InOrder
  pub lent : Lent
  pub at_limits_lem : Agree (size_with (letters 1)) limits
  pub at_limit_of_bytes : Agree (size_with (key_record (replicate 64 97) 0 64)) long_limits
  pub meant : Meant
