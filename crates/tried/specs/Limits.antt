-- Both sides of every limit that 01 sets, as cases that compute.
use Rattle.std.specs.Prelude.{ℕ, zero, suc, ◌+◌, ◌*◌, ◌-◌, ◌/◌, ◌%◌, ◌^◌, ◌≡◌, Bool, true, List, [], ◌∷◌, ◌++◌, length, replicate}
use Rattle.std.proofs.Math.Option.{Option, some}
use Rattle.paper.specs.Answers.{ok, refused, ◌>>=◌, in_text, in_list, in_entry, in_blocks, in_buffer}
use Rattle.paper.specs.Numbers.{big_endian}
use Rattle.paper.specs.Tokens.{bytes}
use Rattle.paper.specs.Keys.{key_record, keys}
use Rattle.paper.specs.Entry.{match_record}
use Rattle.paper.specs.Types.{bool}
use Rattle.paper.specs.Meaning.{both}
use Rattle.paper.specs.Code.{Instruction, push_bool, connects, fails, ends}
use Rattle.paper.specs.Loading.{types_along}
use Rattle.paper.specs.Calls.{read_answer, judge_answer, translate_answer, load_answer}
use Rattle.tried.specs.Examples.{on, Agree, On, repeat}

-- texts: 4,096 bytes; 1,024 tokens; 64 levels of each kind, and mixed; 2^128 − 1 in each base

abbrev pub nested : ℕ → List ℕ
nested n = repeat n (bytes "(") ++ bytes "true" ++ repeat n (bytes ")")

-- "!", "-" and "(" in turn: 3n levels
abbrev pub mixed : ℕ → List ℕ → List ℕ
mixed n inner = repeat n (bytes "!-(") ++ inner ++ repeat n (bytes ")")

-- 1,024 tokens, 2,560 bytes
abbrev pub full_tape : List ℕ
full_tape = repeat 512 (bytes "true;")

abbrev pub texts : List (On ℕ)
texts =
    on (bytes "true" ++ replicate 4092 32) (ok 1)
    ∷ on (bytes "true" ++ replicate 4093 32) (refused 1 in_text 4096)
    ∷ on (replicate 4096 97) (ok 1)
    ∷ on (replicate 4097 97) (refused 1 in_text 4096)
    ∷ on full_tape (ok 1023)
    ∷ on (full_tape ++ bytes "true") (refused 7 in_text 2560)
    ∷ on (full_tape ++ bytes "@") (refused 5 in_text 2560)
    ∷ on (full_tape ++ bytes "340282366920938463463374607431768211456") (refused 6 in_text 2560)
    ∷ on (repeat 64 (bytes "!") ++ bytes "true") (ok 65)
    ∷ on (repeat 65 (bytes "!") ++ bytes "true") (refused 9 in_text 64)
    ∷ on (repeat 64 (bytes "-") ++ bytes "1") (ok 65)
    ∷ on (repeat 65 (bytes "-") ++ bytes "1") (refused 9 in_text 64)
    ∷ on (nested 64) (ok 1)
    ∷ on (nested 65) (refused 9 in_text 64)
    ∷ on (repeat 64 (bytes "(")) (refused 8 in_text 64)
    ∷ on (repeat 65 (bytes "(")) (refused 9 in_text 64)
    ∷ on (mixed 21 (bytes "!1")) (ok 44)
    ∷ on (mixed 21 (bytes "!-1")) (refused 9 in_text 64)
    -- a level closes after its operand, and with its ")"; an address's parenthesis opens none
    ∷ on (repeat 64 (bytes "!") ++ bytes "a==" ++ repeat 64 (bytes "!") ++ bytes "a") (ok 131)
    ∷ on (nested 64 ++ bytes "&&" ++ nested 64) (ok 3)
    ∷ on (repeat 64 (bytes "-") ++ bytes "mac('00:00:00:00:00:05')") (ok 65)
    ∷ on (bytes "340282366920938463463374607431768211455") (ok 1)
    ∷ on (bytes "340282366920938463463374607431768211456") (refused 6 in_text 0)
    ∷ on (bytes "0x" ++ repeat 32 (bytes "f")) (ok 1)
    ∷ on (bytes "0x1" ++ repeat 32 (bytes "0")) (refused 6 in_text 0)
    ∷ on (bytes "0b" ++ repeat 128 (bytes "1")) (ok 1)
    ∷ on (bytes "0b1" ++ repeat 128 (bytes "0")) (refused 6 in_text 0)
    ∷ on (bytes "0o3" ++ repeat 42 (bytes "7")) (refused 22 in_text 0)
    ∷ on (bytes "0o4" ++ repeat 42 (bytes "0")) (refused 22 in_text 0)
    ∷ []

abbrev pub Texts : Type 0
Texts = Agree read_answer texts

-- key lists: 32 records, 2,560 bytes; a byte short and a byte long. Those of a record are in KeyExamples

abbrev pub many_keys : ℕ → List ℕ
many_keys zero = []
many_keys (suc n) = many_keys n ++ key_record ((97 + n / 16) ∷ (97 + n % 16) ∷ []) 0 1

abbrev pub lists : List (On ℕ)
lists =
    on [] (ok 0)
    ∷ on (many_keys 32) (ok 32)
    ∷ on (many_keys 33) (refused 2 in_list 2640)
    ∷ on (many_keys 32 ++ (0 ∷ [])) (refused 2 in_list 2561)
    ∷ on (many_keys 1 ++ replicate 79 97) (refused 2 in_list 159)
    ∷ []

abbrev pub Lists : Type 0
Lists = Agree (λ list. keys list >>= λ ks. ok (length ks)) lists

-- entries: priority below 2^31; a number below 2^W, at W 1 and 128; prefix length at most W; low at most high. Each rule of each kind is
-- in EntryExamples

abbrev pub entry : ℕ → List ℕ → List ℕ
entry priority records = big_endian 4 priority ++ records

abbrev pub Judged : List ℕ → List (On Bool) → Type 0
Judged list cs = Agree (judge_answer (bytes "true") list) cs

abbrev pub priorities : List (On Bool)
priorities =
    on (entry (2 ^ 31 - 1) []) (ok true)
    ∷ on (entry (2 ^ 31) []) (refused 20 in_entry 0)
    ∷ on (big_endian 3 0) (refused 19 in_entry 3)
    ∷ on (big_endian 5 0) (refused 19 in_entry 5)
    ∷ []

abbrev pub narrow : List (On Bool)
narrow =
    on (entry 0 (match_record 1 0 1 0)) (ok true)
    ∷ on (entry 0 (match_record 1 0 2 0)) (refused 20 in_entry 4)
    ∷ []

abbrev pub wide : List (On Bool)
wide =
    on (entry 0 (match_record 1 128 (2 ^ 128 - 1) 0)) (ok true)
    ∷ on (entry 0 (match_record 1 129 (2 ^ 128 - 1) 0)) (refused 20 in_entry 4)
    ∷ on (entry 0 (match_record 1 127 (2 ^ 128 - 2) 0)) (ok true)
    ∷ on (entry 0 (match_record 1 127 (2 ^ 128 - 1) 0)) (refused 20 in_entry 4)
    ∷ []

abbrev pub narrow_ranges : List (On Bool)
narrow_ranges =
    on (entry 0 (match_record 1 0 0 0)) (ok true)
    ∷ on (entry 0 (match_record 1 0 0 1)) (ok true)
    ∷ on (entry 0 (match_record 1 0 1 1)) (ok true)
    ∷ on (entry 0 (match_record 1 0 1 0)) (refused 20 in_entry 4)
    ∷ on (entry 0 (match_record 1 0 2 2)) (refused 20 in_entry 4)
    ∷ []

abbrev pub wide_ranges : List (On Bool)
wide_ranges =
    on (entry 0 (match_record 1 0 (2 ^ 128 - 2) (2 ^ 128 - 1))) (ok true)
    ∷ on (entry 0 (match_record 1 0 (2 ^ 128 - 1) (2 ^ 128 - 1))) (ok true)
    ∷ on (entry 0 (match_record 1 0 (2 ^ 128 - 1) (2 ^ 128 - 2))) (refused 20 in_entry 4)
    ∷ []

pub record Entries : Type 0 where
  pub priority : Judged [] priorities
  pub one : Judged (key_record (bytes "k") 0 1) narrow
  pub all : Judged (key_record (bytes "k") 2 128) wide
  pub range_of_one : Judged (key_record (bytes "k") 3 1) narrow_ranges
  pub range_of_all : Judged (key_record (bytes "k") 3 128) wide_ranges

-- values held: 384. n bools, then as many joins as bring them back to one
abbrev pub piled : ℕ → List (Option Instruction)
piled n = replicate n (some (push_bool true)) ++ replicate (n - 1) (some (connects both))

pub record Held : Type 0 where
  pub most : types_along [] (piled 384) ≡ ends (bool ∷ [])
  pub more : types_along [] (piled 385) ≡ fails 384

-- buffers: a byte short of the block that is needed; blocks: none, half a one, 123 and 124 of them
abbrev pub buffers : List (On ℕ)
buffers =
    on (replicate 512 0) (ok 1)
    ∷ on (replicate 511 0) (refused 15 in_buffer 511)
    ∷ []

abbrev pub lengths : List (On ℕ)
lengths =
    on [] (refused 16 in_blocks 0)
    ∷ on (replicate 256 0) (refused 16 in_blocks 256)
    ∷ on (replicate 512 0) (refused 17 in_blocks 0)
    ∷ on (replicate (123 * 512) 0) (refused 17 in_blocks 0)
    ∷ on (replicate (124 * 512) 0) (refused 16 in_blocks 63488)
    ∷ []

pub record Sizes : Type 0 where
  pub buffer : Agree (translate_answer (bytes "true") []) buffers
  pub blocks : Agree (load_answer []) lengths
