-- 01, "Key list and entry", first paragraph; refusals 2, 3 and 4.
-- "A key list is 0 to 32 records of 80 bytes. Byte 0: name length, 1 to 64. Byte 1: kind, 0 exact, 1 ternary, 2 lpm, 3 range,
-- 4 optional. Byte 2: width W, 1 to 128. Bytes 3 to 15 zero. Bytes 16 to 79: the name, a key by 004's grammar and neither
-- "true" nor "false", then zeros."
-- 02 i: "Byte 3 of a key record becomes a flag, 0 or 1; with 1 the key must be present, and its absence is number 20. Other values are
-- number 3." Bytes 4 to 15 stay zero. What the flag changes stands in Required.
use Rattle.std.specs.Prelude.{ℕ, zero, suc, ◌+◌, ◌*◌, ◌-◌, ◌/◌, ◌%◌, Bool, true, false, not, cond, ◌&&◌, List, [], ◌∷◌, ◌++◌, length, drop, replicate, eqb, leb}
use Rattle.std.proofs.Math.Option.{Option, none, some}
use Rattle.paper.specs.Answers.{Answer, ok, ◌>>=◌, require, in_turn, in_list}
use Rattle.paper.specs.Numbers.{byte_at, bytes_at}
use Rattle.paper.specs.Tokens.{bytes, same_bytes, is_key}

pub data Kind : Type 0 where
  exact ternary lpm range optional : Kind

abbrev pub kind_no : Kind → ℕ
kind_no exact = 0
kind_no ternary = 1
kind_no lpm = 2
kind_no range = 3
kind_no optional = 4

-- of a number up to 4: a record with a greater one is refused, so that its kind is never asked
abbrev pub kind_of : ℕ → Kind
kind_of n =
    cond (eqb n 0) exact
    (cond (eqb n 1) ternary
    (cond (eqb n 2) lpm
    (cond (eqb n 3) range optional)))

pub record Key : Type 0 where
  pub name : List ℕ
  pub kind : Kind
  pub width : ℕ
  -- "with 1 the key must be present"
  pub required : Bool

abbrev pub all_zero : List ℕ → Bool
all_zero [] = true
all_zero (b ∷ s) =
    let rest = all_zero s in
    cond (eqb b 0) rest false

abbrev pub record_size : ℕ
record_size = 80

abbrev pub most_keys : ℕ
most_keys = 32

-- writing: "Byte 0: name length, 1 to 64. Byte 1: kind, ... Byte 2: width W, 1 to 128. .. Bytes 16 to 79: the name, ... then zeros."
-- Of a name, a kind's number and a width: a key that may be absent, and one that must be present
abbrev pub key_record : List ℕ → ℕ → ℕ → List ℕ
key_record name kind width = length name ∷ kind ∷ width ∷ (replicate 13 0 ++ name ++ replicate (64 - length name) 0)

abbrev pub required_key : List ℕ → ℕ → ℕ → List ℕ
required_key name kind width = length name ∷ kind ∷ width ∷ 1 ∷ (replicate 12 0 ++ name ++ replicate (64 - length name) 0)

-- reading

abbrev pub records_in : List ℕ → ℕ
records_in list = length list / record_size

abbrev pub record_at : List ℕ → ℕ → List ℕ
record_at list k = bytes_at list (k * record_size) record_size

abbrev pub name_of : List ℕ → List ℕ
name_of r = bytes_at r 16 (byte_at r 0)

abbrev pub key_of : List ℕ → Key
key_of r = record { name = name_of r; kind = kind_of (byte_at r 1); width = byte_at r 2; required = eqb (byte_at r 3) 1 }

abbrev pub record_ok : List ℕ → Bool
record_ok r =
    leb 1 (byte_at r 0) && leb (byte_at r 0) 64
    && leb (byte_at r 1) 4
    && leb 1 (byte_at r 2) && leb (byte_at r 2) 128
    && leb (byte_at r 3) 1 && all_zero (bytes_at r 4 12)
    && is_key (name_of r) && not (same_bytes (name_of r) (bytes "true")) && not (same_bytes (name_of r) (bytes "false"))
    && all_zero (drop (16 + byte_at r 0) r)

-- the index of the key of a name
abbrev pub find_from : ℕ → List Key → List ℕ → Option ℕ
find_from k [] name = none
find_from k (key ∷ keys) name =
    let later = find_from (suc k) keys name in
    cond (same_bytes key.name name) (some k) later

abbrev pub find : List Key → List ℕ → Option ℕ
find keys name = find_from 0 keys name

-- the first n records as keys
abbrev pub keys_from : List ℕ → ℕ → ℕ → List Key
keys_from list k zero = []
keys_from list k (suc n) = key_of (record_at list k) ∷ keys_from list (suc k) n

abbrev pub is_none : {A : Type 0} → Option A → Bool
is_none none = true
is_none (some a) = false

-- no earlier record has the name of record k
abbrev pub is_new : List ℕ → ℕ → Bool
is_new list k = is_none (find (keys_from list 0 k) (name_of (record_at list k)))

-- what is asked of a record, by its index, before its name is compared
abbrev pub RecordRule : Type 0
RecordRule = ℕ → List ℕ → Bool

-- 3: "a key record breaks its layout"; 4: "a name repeats an earlier one". Of record k
abbrev pub record_test : RecordRule → List ℕ → ℕ → Answer (Unit {0})
record_test rule list k =
    require (rule k (record_at list k)) 3 in_list (k * record_size)
    >>= λ _. require (is_new list k) 4 in_list (k * record_size)

-- 2: "key list length not a multiple of 80, or over 2,560"; then 3 and 4
abbrev pub keys_by : RecordRule → List ℕ → Answer (List Key)
keys_by rule list =
    require (eqb (length list % record_size) 0 && leb (length list) (most_keys * record_size)) 2 in_list (length list)
    >>= λ _. in_turn (record_test rule list) 0 (records_in list)
    >>= λ _. ok (keys_from list 0 (records_in list))

-- the layout, which is the same for every index
abbrev pub layout_rule : RecordRule
layout_rule k r = record_ok r

unfoldable pub keys : List ℕ → Answer (List Key)
keys list = keys_by layout_rule list
