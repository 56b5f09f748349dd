-- 01, "Key list and entry", first paragraph, and the flag of 02 i, by example: key lists with the keys that they hold, and lists that are
-- refused.
use Rattle.std.specs.Prelude.{ℕ, true, false, List, [], ◌∷◌, ◌++◌, replicate}
use Rattle.std.proofs.Math.Option.{Option, none, some}
use Rattle.paper.specs.Answers.{ok, refused, ◌>>=◌, in_list}
use Rattle.paper.specs.Tokens.{bytes}
use Rattle.paper.specs.Keys.{key_record, required_key, Kind, exact, ternary, lpm, range, optional, Key, find, keys}
use Rattle.tried.specs.MarkedJudgements.{the_keys}
use Rattle.tried.specs.Examples.{on, Agree, On}

abbrev pub a_key : List ℕ → Kind → ℕ → Key
a_key name kind width = record { name = name; kind = kind; width = width; required = false }

-- one that must be present
abbrev pub a_required_key : List ℕ → Kind → ℕ → Key
a_required_key name kind width = record { name = name; kind = kind; width = width; required = true }

-- a record byte by byte: its first three bytes, bytes 3 to 15, and the rest
abbrev pub record_of : ℕ → ℕ → ℕ → List ℕ → List ℕ → List ℕ
record_of size kind width middle rest = size ∷ kind ∷ width ∷ (middle ++ rest)

abbrev pub zeros : ℕ → List ℕ
zeros n = replicate n 0

-- "Byte 0: name length, 1 to 64. Byte 1: kind, 0 exact, 1 ternary, 2 lpm, 3 range, 4 optional. Byte 2: width W, 1 to 128. .. Bytes 16 to
-- 79: the name, .. then zeros." Byte 3 is further on
abbrev pub layouts : List (On (List Key))
layouts =
    on [] (ok [])
    ∷ on the_keys
    (ok
    (a_key (bytes "v") exact 1
    ∷ a_key (bytes "d") ternary 8
    ∷ a_key (bytes "p") lpm 8
    ∷ a_key (bytes "r") range 16
    ∷ a_key (bytes "o") optional 4
    ∷ []))
    ∷ on (record_of 2 4 128 (zeros 13) (bytes "ab" ++ zeros 62)) (ok (a_key (bytes "ab") optional 128 ∷ []))
    ∷ on (record_of 64 0 1 (zeros 13) (replicate 64 97)) (ok (a_key (replicate 64 97) exact 1 ∷ []))
    ∷ on (record_of 0 0 8 (zeros 13) (zeros 64)) (refused 3 in_list 0)
    ∷ on (record_of 65 0 8 (zeros 13) (replicate 64 97)) (refused 3 in_list 0)
    ∷ on (record_of 1 5 8 (zeros 13) (bytes "k" ++ zeros 63)) (refused 3 in_list 0)
    ∷ on (record_of 1 0 0 (zeros 13) (bytes "k" ++ zeros 63)) (refused 3 in_list 0)
    ∷ on (record_of 1 0 129 (zeros 13) (bytes "k" ++ zeros 63)) (refused 3 in_list 0)
    -- a byte that is not zero: the first and the last of bytes 4 to 15, and of those after the name
    ∷ on (record_of 1 0 8 (0 ∷ 1 ∷ zeros 11) (bytes "k" ++ zeros 63)) (refused 3 in_list 0)
    ∷ on (record_of 1 0 8 (zeros 12 ++ (1 ∷ [])) (bytes "k" ++ zeros 63)) (refused 3 in_list 0)
    ∷ on (record_of 1 0 8 (zeros 13) (bytes "kk" ++ zeros 62)) (refused 3 in_list 0)
    ∷ on (record_of 1 0 8 (zeros 13) (bytes "k" ++ zeros 62 ++ bytes "k")) (refused 3 in_list 0)
    -- a name length past the name
    ∷ on (record_of 2 0 8 (zeros 13) (bytes "k" ++ zeros 63)) (refused 3 in_list 0)
    ∷ []

-- "the name, a key by 004's grammar and neither "true" nor "false"": id ('.' id)*
abbrev pub named : List ℕ → On (List Key)
named name = on (key_record name 0 8) (ok (a_key name exact 8 ∷ []))

abbrev pub no_name : List ℕ → On (List Key)
no_name name = on (key_record name 0 8) (refused 3 in_list 0)

abbrev pub names : List (On (List Key))
names =
    named (bytes "_")
    ∷ named (bytes "a1.B_2.c")
    ∷ named (bytes "ipv4")
    ∷ named (bytes "True")
    ∷ named (bytes "tru")
    ∷ named (bytes "true.x")
    ∷ named (bytes "falsey")
    ∷ no_name (bytes "true")
    ∷ no_name (bytes "false")
    ∷ no_name (bytes "1a")
    ∷ no_name (bytes ".a")
    ∷ no_name (bytes "a.")
    ∷ no_name (bytes "a..b")
    ∷ no_name (bytes "a.1")
    ∷ no_name (bytes "a b")
    ∷ no_name (bytes "a-b")
    ∷ no_name (bytes "a::b")
    ∷ []

-- 2, 3 and 4 at their places: "earliest place wins; at one place the lower number wins"

abbrev pub good : List ℕ → List ℕ
good name = key_record name 0 8

abbrev pub broken : List ℕ → List ℕ
broken name = key_record name 5 8

abbrev pub k : List ℕ
k = bytes "k"

abbrev pub faults : List (On (List Key))
faults =
    on (good k ++ (0 ∷ [])) (refused 2 in_list 81)
    ∷ on (broken k ++ (0 ∷ [])) (refused 2 in_list 81)
    ∷ on (good k ++ broken (bytes "l")) (refused 3 in_list 80)
    ∷ on (broken k ++ broken (bytes "l")) (refused 3 in_list 0)
    ∷ on (good k ++ good k) (refused 4 in_list 80)
    ∷ on (good k ++ good (bytes "l") ++ good k) (refused 4 in_list 160)
    ∷ on (good (bytes "l") ++ good k ++ good k) (refused 4 in_list 160)
    ∷ on (good k ++ broken k) (refused 3 in_list 80)
    ∷ on (good k ++ good k ++ broken (bytes "l")) (refused 4 in_list 80)
    ∷ on (good k ++ broken (bytes "l") ++ good k) (refused 3 in_list 80)
    ∷ []

-- "Byte 3 of a key record becomes a flag, 0 or 1; .. Other values are number 3.": of a kind's number and a flag

abbrev pub flagged : ℕ → ℕ → List ℕ
flagged kind flag = record_of 1 kind 8 (flag ∷ zeros 12) (k ++ zeros 63)

abbrev pub flags : List (On (List Key))
flags =
    on (flagged 1 0) (ok (a_key k ternary 8 ∷ []))
    ∷ on (flagged 1 1) (ok (a_required_key k ternary 8 ∷ []))
    ∷ on (flagged 1 2) (refused 3 in_list 0)
    ∷ on (flagged 1 255) (refused 3 in_list 0)
    -- on each kind, and on an exact key too, where it changes nothing
    ∷ on (flagged 0 1) (ok (a_required_key k exact 8 ∷ []))
    ∷ on (flagged 2 1) (ok (a_required_key k lpm 8 ∷ []))
    ∷ on (flagged 3 1) (ok (a_required_key k range 8 ∷ []))
    ∷ on (flagged 4 1) (ok (a_required_key k optional 8 ∷ []))
    ∷ on (flagged 0 2) (refused 3 in_list 0)
    -- the bytes between it and the name are no flags
    ∷ on (record_of 1 1 8 (1 ∷ 1 ∷ zeros 11) (k ++ zeros 63)) (refused 3 in_list 0)
    ∷ on (record_of 1 1 8 (1 ∷ zeros 11 ++ (1 ∷ [])) (k ++ zeros 63)) (refused 3 in_list 0)
    -- each record has its own, and a name repeats whatever the flags
    ∷ on (good k ++ required_key (bytes "l") 1 8 ++ good (bytes "m"))
    (ok (a_key k exact 8 ∷ a_required_key (bytes "l") ternary 8 ∷ a_key (bytes "m") exact 8 ∷ []))
    ∷ on (required_key (bytes "l") 1 8 ++ flagged 1 2) (refused 3 in_list 80)
    ∷ on (good k ++ required_key k 0 8) (refused 4 in_list 80)
    ∷ []

-- the key of a name is found by the whole name
abbrev pub found : List (On (Option ℕ))
found =
    on (bytes "v") (ok (some 0))
    ∷ on (bytes "d") (ok (some 1))
    ∷ on (bytes "o") (ok (some 4))
    ∷ on (bytes "ox") (ok none)
    ∷ on (bytes "x") (ok none)
    ∷ on [] (ok none)
    ∷ []

pub record KeyExamples : Type 0 where
  pub laid_out : Agree keys layouts
  pub with_names : Agree keys names
  pub at_places : Agree keys faults
  pub with_flags : Agree keys flags
  pub by_name : Agree (λ name. keys the_keys >>= λ ks. ok (find ks name)) found
