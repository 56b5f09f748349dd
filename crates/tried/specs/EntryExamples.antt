-- 01, "Key list and entry", from "An entry for n keys", and keys that must be present (02 i), by example: entries with what they read
-- as, and each rule of each kind, kept and broken.
use Rattle.std.specs.Prelude.{ℕ, ◌-◌, ◌^◌, List, [], ◌∷◌, ◌++◌, replicate}
use Rattle.paper.specs.Answers.{Answer, ok, refused, ◌>>=◌, in_entry}
use Rattle.paper.specs.Numbers.{big_endian}
use Rattle.paper.specs.Tokens.{bytes}
use Rattle.paper.specs.Keys.{key_record, required_key, keys}
use Rattle.paper.specs.Entry.{match_record, Match, Entry, entry_of}
use Rattle.tried.specs.MarkedJudgements.{the_keys, the_entry}
use Rattle.tried.specs.Examples.{on, Agree, On, numbers_from}

-- what an entry reads as, for a key list
abbrev pub read_with : List ℕ → List ℕ → Answer Entry
read_with list entry = keys list >>= λ ks. entry_of ks entry

abbrev pub match : ℕ → ℕ → ℕ → Match
match first second length = record { first = first; second = second; length = length }

abbrev pub reads : ℕ → List Match → Answer Entry
reads priority matches = ok (record { priority = priority; matches = matches })

-- "numbers big-endian. Bytes 0 to 3: priority .. byte 1 prefix length; .. 16 bytes first number (value or low); 16 bytes second number
-- (mask or high)"

abbrev pub bytes_read : List (On Entry)
bytes_read =
    on (1 ∷ 2 ∷ 3 ∷ 4 ∷ 1 ∷ 0 ∷ 0 ∷ 0 ∷ numbers_from 5 32)
    (reads 0x01020304 (match 0x05060708090a0b0c0d0e0f1011121314 0x15161718191a1b1c1d1e1f2021222324 0 ∷ []))
    ∷ []

-- the marked entry; and one with every key absent that may be: "It reads as value 0 with mask 0, prefix length 0, or low 0 with high
-- 2^W − 1."
abbrev pub marked_read : List (On Entry)
marked_read =
    on the_entry (reads 10 (match 1 0 0 ∷ match 0x20 0xF0 0 ∷ match 0xC0 0 2 ∷ match 80 443 0 ∷ match 0 0 0 ∷ []))
    ∷ on
    (big_endian 4 0 ++ match_record 1 0 0 0 ++ match_record 0 0 0 0 ++ match_record 0 0 0 0 ++ match_record 0 0 0 0 ++ match_record 0 0 0 0)
    (reads 0 (match 0 0 0 ∷ match 0 0 0 ∷ match 0 0 0 ∷ match 0 65535 0 ∷ match 0 0 0 ∷ []))
    ∷ []

-- 19 and 20 at their places, with two keys, exact and ternary of 8

abbrev pub two_keys : List ℕ
two_keys = key_record (bytes "e") 0 8 ++ key_record (bytes "t") 1 8

abbrev pub first : List ℕ
first = match_record 1 0 5 0

abbrev pub bad_first : List ℕ
bad_first = match_record 1 0 5 1

abbrev pub second : List ℕ
second = match_record 1 0 5 7

abbrev pub bad_second : List ℕ
bad_second = match_record 1 0 5 2

abbrev pub places : List (On Entry)
places =
    on (big_endian 4 3 ++ first ++ second) (reads 3 (match 5 0 0 ∷ match 5 7 0 ∷ []))
    -- "An entry for n keys has exactly 4 + 36n bytes"
    ∷ on [] (refused 19 in_entry 0)
    ∷ on (big_endian 4 3) (refused 19 in_entry 4)
    ∷ on (big_endian 4 3 ++ first) (refused 19 in_entry 40)
    ∷ on (big_endian 3 3 ++ first ++ second) (refused 19 in_entry 75)
    ∷ on (big_endian 5 3 ++ first ++ second) (refused 19 in_entry 77)
    ∷ on (big_endian 4 3 ++ first ++ second ++ second) (refused 19 in_entry 112)
    -- "priority, below 2^31", and the records in their order: "the earliest place wins"
    ∷ on (big_endian 4 (2 ^ 31 - 1) ++ first ++ second) (reads (2 ^ 31 - 1) (match 5 0 0 ∷ match 5 7 0 ∷ []))
    ∷ on (big_endian 4 (2 ^ 31) ++ first ++ second) (refused 20 in_entry 0)
    ∷ on (big_endian 4 (2 ^ 31) ++ bad_first ++ second) (refused 20 in_entry 0)
    ∷ on (big_endian 4 3 ++ bad_first ++ second) (refused 20 in_entry 4)
    ∷ on (big_endian 4 3 ++ bad_first ++ bad_second) (refused 20 in_entry 4)
    ∷ on (big_endian 4 3 ++ first ++ bad_second) (refused 20 in_entry 40)
    ∷ []

-- 02 i: "with 1 the key must be present, and its absence is number 20": with a ternary key of 8 that must, one that may be absent, and a
-- range of 8 that must

abbrev pub three_keys : List ℕ
three_keys = required_key (bytes "t") 1 8 ++ key_record (bytes "u") 1 8 ++ required_key (bytes "r") 3 8

abbrev pub no_record : List ℕ
no_record = match_record 0 0 0 0

abbrev pub absences : List (On Entry)
absences =
    on (big_endian 4 3 ++ second ++ second ++ second) (reads 3 (match 5 7 0 ∷ match 5 7 0 ∷ match 5 7 0 ∷ []))
    ∷ on (big_endian 4 3 ++ second ++ no_record ++ second) (reads 3 (match 5 7 0 ∷ match 0 0 0 ∷ match 5 7 0 ∷ []))
    ∷ on (big_endian 4 3 ++ no_record ++ second ++ second) (refused 20 in_entry 4)
    ∷ on (big_endian 4 3 ++ second ++ second ++ no_record) (refused 20 in_entry 76)
    ∷ on (big_endian 4 3 ++ no_record ++ no_record ++ no_record) (refused 20 in_entry 4)
    -- "the earliest place wins"
    ∷ on (big_endian 4 3 ++ second ++ bad_second ++ no_record) (refused 20 in_entry 40)
    ∷ on (big_endian 4 3 ++ no_record ++ bad_second ++ second) (refused 20 in_entry 4)
    ∷ on (big_endian 4 (2 ^ 31) ++ no_record ++ second ++ no_record) (refused 20 in_entry 0)
    ∷ on (big_endian 4 3 ++ no_record ++ second) (refused 19 in_entry 76)
    ∷ []

-- a record of one key, of a kind's number and a width: kept, with what it reads as, or broken

abbrev pub Rules : ℕ → ℕ → List (On Entry) → Type 0
Rules kind width es = Agree (λ r. read_with (key_record (bytes "k") kind width) (big_endian 4 0 ++ r)) es

-- of one that must be present
abbrev pub RequiredRules : ℕ → ℕ → List (On Entry) → Type 0
RequiredRules kind width es = Agree (λ r. read_with (required_key (bytes "k") kind width) (big_endian 4 0 ++ r)) es

abbrev pub kept : List ℕ → Match → On Entry
kept r m = on r (reads 0 (m ∷ []))

abbrev pub broken : List ℕ → On Entry
broken r = on r (refused 20 in_entry 4)

-- "byte 0 present (0 or 1)", "bytes 2, 3 zero", "Fields a kind lacks are zero. Numbers are below 2^W.", an absent key "may not be exact"
abbrev pub exact_rules : List (On Entry)
exact_rules =
    kept (match_record 1 0 255 0) (match 255 0 0)
    ∷ broken (match_record 1 0 256 0)
    ∷ broken (match_record 1 1 5 0)
    ∷ broken (match_record 1 0 5 1)
    ∷ broken (match_record 2 0 5 0)
    ∷ broken (1 ∷ 0 ∷ 1 ∷ 0 ∷ replicate 32 0)
    ∷ broken (1 ∷ 0 ∷ 0 ∷ 1 ∷ replicate 32 0)
    ∷ broken (match_record 0 0 0 0)
    ∷ []

-- "the value has no bit outside the mask"; "An absent key has 35 zero bytes after byte 0"
abbrev pub ternary_rules : List (On Entry)
ternary_rules =
    kept (match_record 1 0 0x20 0xF0) (match 0x20 0xF0 0)
    ∷ kept (match_record 1 0 0xA5 0xA5) (match 0xA5 0xA5 0)
    ∷ kept (match_record 1 0 255 255) (match 255 255 0)
    ∷ kept (match_record 1 0 0 0) (match 0 0 0)
    ∷ broken (match_record 1 0 0x21 0xF0)
    ∷ broken (match_record 1 0 0x120 0x1F0)
    ∷ broken (match_record 1 0 0x20 0x1F0)
    ∷ broken (match_record 1 1 0x20 0xF0)
    ∷ kept (match_record 0 0 0 0) (match 0 0 0)
    ∷ broken (match_record 0 1 0 0)
    ∷ broken (0 ∷ 0 ∷ 1 ∷ replicate 33 0)
    ∷ broken (match_record 0 0 0 1)
    ∷ broken (match_record 0 0 5 7)
    ∷ broken (match_record 2 0 0 0)
    ∷ []

-- "prefix length at most W, and the low W − length bits of the value are zero"
abbrev pub lpm_rules : List (On Entry)
lpm_rules =
    kept (match_record 1 2 0xC0 0) (match 0xC0 0 2)
    ∷ broken (match_record 1 2 0xE0 0)
    ∷ kept (match_record 1 3 0xE0 0) (match 0xE0 0 3)
    ∷ kept (match_record 1 8 255 0) (match 255 0 8)
    ∷ broken (match_record 1 9 255 0)
    ∷ broken (match_record 1 9 0 0)
    ∷ broken (match_record 1 7 255 0)
    ∷ broken (match_record 1 8 256 0)
    ∷ broken (match_record 1 2 0xC0 1)
    ∷ kept (match_record 1 0 0 0) (match 0 0 0)
    ∷ broken (match_record 1 0 128 0)
    ∷ kept (match_record 0 0 0 0) (match 0 0 0)
    ∷ broken (match_record 0 1 0 0)
    ∷ []

-- "low <= high"; 0 to 0 is one value, and no absent key
abbrev pub range_rules : List (On Entry)
range_rules =
    kept (match_record 1 0 4 5) (match 4 5 0)
    ∷ kept (match_record 1 0 5 5) (match 5 5 0)
    ∷ broken (match_record 1 0 6 5)
    ∷ broken (match_record 1 0 5 0)
    ∷ broken (match_record 1 0 1 0)
    ∷ kept (match_record 1 0 0 0) (match 0 0 0)
    ∷ kept (match_record 1 0 0 1) (match 0 1 0)
    ∷ kept (match_record 1 0 0 255) (match 0 255 0)
    ∷ kept (match_record 1 0 255 255) (match 255 255 0)
    ∷ broken (match_record 1 0 0 256)
    ∷ broken (match_record 1 0 256 256)
    ∷ broken (match_record 1 1 4 5)
    ∷ broken (match_record 1 1 5 5)
    ∷ kept (match_record 0 0 0 0) (match 0 255 0)
    ∷ broken (match_record 0 0 4 5)
    ∷ broken (match_record 0 0 5 5)
    ∷ []

-- "an optional mask is 0 or 2^W − 1"
abbrev pub optional_rules : List (On Entry)
optional_rules =
    kept (match_record 1 0 5 255) (match 5 255 0)
    ∷ kept (match_record 1 0 0 255) (match 0 255 0)
    ∷ kept (match_record 1 0 0 0) (match 0 0 0)
    ∷ broken (match_record 1 0 5 0)
    ∷ broken (match_record 1 0 5 7)
    ∷ broken (match_record 1 0 0 1)
    ∷ broken (match_record 1 0 0 254)
    ∷ broken (match_record 1 0 0 256)
    ∷ broken (match_record 1 0 256 255)
    ∷ broken (match_record 1 1 5 255)
    ∷ kept (match_record 0 0 0 0) (match 0 0 0)
    ∷ broken (match_record 0 0 0 255)
    ∷ []

-- of keys that must be present: absent, and present with what absence would read as, which is not absence; the other rules stay

abbrev pub exact_required : List (On Entry)
exact_required =
    kept (match_record 1 0 255 0) (match 255 0 0)
    ∷ kept (match_record 1 0 0 0) (match 0 0 0)
    ∷ broken no_record
    ∷ broken (match_record 1 0 256 0)
    ∷ []

abbrev pub ternary_required : List (On Entry)
ternary_required =
    broken no_record
    ∷ kept (match_record 1 0 0 0) (match 0 0 0)
    ∷ kept (match_record 1 0 0x20 0xF0) (match 0x20 0xF0 0)
    ∷ broken (match_record 1 0 0x21 0xF0)
    ∷ broken (match_record 2 0 0 0)
    ∷ broken (match_record 0 0 0 1)
    ∷ []

abbrev pub lpm_required : List (On Entry)
lpm_required =
    broken no_record
    ∷ kept (match_record 1 0 0 0) (match 0 0 0)
    ∷ kept (match_record 1 2 0xC0 0) (match 0xC0 0 2)
    ∷ broken (match_record 1 2 0xE0 0)
    ∷ []

abbrev pub range_required : List (On Entry)
range_required =
    broken no_record
    ∷ kept (match_record 1 0 0 255) (match 0 255 0)
    ∷ kept (match_record 1 0 0 0) (match 0 0 0)
    ∷ broken (match_record 1 0 6 5)
    ∷ []

abbrev pub optional_required : List (On Entry)
optional_required =
    broken no_record
    ∷ kept (match_record 1 0 0 0) (match 0 0 0)
    ∷ kept (match_record 1 0 5 255) (match 5 255 0)
    ∷ broken (match_record 1 0 5 7)
    ∷ []

pub record EntryExamples : Type 0 where
  pub in_bytes : Agree (read_with (key_record (bytes "k") 3 128)) bytes_read
  pub marked : Agree (read_with the_keys) marked_read
  pub at_places : Agree (read_with two_keys) places
  pub with_absences : Agree (read_with three_keys) absences
  pub exact_of_8 : Rules 0 8 exact_rules
  pub ternary_of_8 : Rules 1 8 ternary_rules
  pub lpm_of_8 : Rules 2 8 lpm_rules
  pub range_of_8 : Rules 3 8 range_rules
  pub optional_of_8 : Rules 4 8 optional_rules
  pub exact_required_lem : RequiredRules 0 8 exact_required
  pub ternary_required_lem : RequiredRules 1 8 ternary_required
  pub lpm_required_lem : RequiredRules 2 8 lpm_required
  pub range_required_lem : RequiredRules 3 8 range_required
  pub optional_required_lem : RequiredRules 4 8 optional_required
