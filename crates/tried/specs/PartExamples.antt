-- 02 c by example: texts with their parts, both sides of each limit, and what is shown of an entry.
use Rattle.std.specs.Prelude.{ℕ, ◌-◌, ◌^◌, true, List, [], ◌∷◌, ◌++◌, map, length, drop, replicate}
use Prim.Native.String as S
use Rattle.paper.specs.Answers.{Answer, ok, refused, ◌>>=◌, in_text, in_list, in_entry}
use Rattle.paper.specs.Numbers.{big_endian}
use Rattle.paper.specs.Tokens.{bytes}
use Rattle.paper.specs.Keys.{key_record}
use Rattle.paper.specs.Entry.{match_record}
use Rattle.paper.specs.Grammar.{place_of}
use Rattle.paper.specs.Print.{print}
use Rattle.paper.specs.Calls.{tree}
use Rattle.paper.specs.Parts.{Part, parts}
use Rattle.paper.specs.Explained.{Reason, in_part, at_key, nothing_to_show, reason_for, explain_answer}
use Rattle.tried.specs.MarkedJudgements.{the_keys, the_entry}
use Rattle.tried.specs.Limits.{many_keys}
use Rattle.tried.specs.Examples.{Example, on, Agree, On, OnText, AgreeOnTexts, repeat}

-- a part by its number, its root's place and its stretch, as an explanation shows it

abbrev pub part : ℕ → ℕ → ℕ → ℕ → Reason
part number place from to = in_part number place (record { from = from; to = to })

abbrev pub shown : Part → Reason
shown p = in_part p.number (place_of p.root) p.stretch

abbrev pub parts_shown : List ℕ → Answer (List Reason)
parts_shown text = parts text >>= λ ps. ok (map shown ps)

-- "top-level ";" signs, those outside parentheses"; "A part's stretch runs from its first token to its last"
abbrev pub texts : List (OnText (List Reason))
texts =
    on "a" (ok (part 1 0 0 1 ∷ []))
    ∷ on "true;" (ok (part 1 0 0 4 ∷ []))
    ∷ on "a;b" (ok (part 1 0 0 1 ∷ part 2 2 2 3 ∷ []))
    ∷ on "a;b;c" (ok (part 1 0 0 1 ∷ part 2 2 2 3 ∷ part 3 4 4 5 ∷ []))
    ∷ on "(a;b);c" (ok (part 1 2 0 5 ∷ part 2 6 6 7 ∷ []))
    ∷ on "a;(b;c)" (ok (part 1 0 0 1 ∷ part 2 4 2 7 ∷ []))
    ∷ on "(a;b)" (ok (part 1 2 0 5 ∷ []))
    ∷ on "((a;b));" (ok (part 1 3 0 7 ∷ []))
    ∷ on "!(a;b);((c))" (ok (part 1 0 0 6 ∷ part 2 9 7 12 ∷ []))
    ∷ on "v == 1; ((false; true)) ; false;" (ok (part 1 2 0 6 ∷ part 2 15 8 23 ∷ part 3 26 26 31 ∷ []))
    ∷ on "::priority < 0x0010 ; ((a);b)" (ok (part 1 11 0 19 ∷ part 2 26 22 29 ∷ []))
    ∷ on "a -> b && c;d || -e" (ok (part 1 2 0 11 ∷ part 2 14 12 19 ∷ []))
    -- an address has parentheses of its own
    ∷ on "a == mac('00:00:00:00:00:0f');b" (ok (part 1 2 0 29 ∷ part 2 30 30 31 ∷ []))
    ∷ on "(ipv4('0.0.0.1') == a;b)" (ok (part 1 21 0 24 ∷ []))
    -- blanks and comments around a part
    ∷ on " a ; // x;y\n b::value // z" (ok (part 1 1 1 2 ∷ part 2 13 13 21 ∷ []))
    ∷ on "a // (\n; b // ;" (ok (part 1 0 0 1 ∷ part 2 9 9 10 ∷ []))
    ∷ []

-- 1 and 512 parts
abbrev pub counts : List (On ℕ)
counts =
    on (bytes "a;") (ok 1)
    ∷ on (bytes "a;a") (ok 2)
    ∷ on (repeat 512 (bytes "a;")) (ok 512)
    ∷ []

-- the last part: as the 512th, up to byte 4,096, and after 64 parentheses
abbrev pub last_shown : List ℕ → Answer (List Reason)
last_shown text = parts text >>= λ ps. ok (map shown (drop (length ps - 1) ps))

abbrev pub lasts : List (On (List Reason))
lasts =
    on (repeat 512 (bytes "a;")) (ok (part 512 1022 1022 1023 ∷ []))
    ∷ on (bytes "a;" ++ replicate 4094 97) (ok (part 2 2 2 4096 ∷ []))
    ∷ on (repeat 64 (bytes "(") ++ bytes "a;b" ++ repeat 64 (bytes ")")) (ok (part 1 65 0 131 ∷ []))
    ∷ on (repeat 64 (bytes "(") ++ bytes "a;b" ++ repeat 64 (bytes ")") ++ bytes ";c") (ok (part 2 132 132 133 ∷ []))
    ∷ []

-- on the marked keys and entry: "For a violated entry, name the first false part"; "Accepted entries and other refusals get "nothing to
-- show" and their own answer"
abbrev pub judged : List (Example S.String Reason)
judged =
    on "true;" (nothing_to_show (ok true))
    ∷ on "v == 1; (true; -v == 1)" (nothing_to_show (ok true))
    ∷ on "false;" (part 1 0 0 5)
    ∷ on "false; false" (part 1 0 0 5)
    ∷ on "v == 1; ::priority < 10" (part 2 19 8 23)
    ∷ on "v == 1; ((false; true)) ; false;" (part 2 15 8 23)
    ∷ on "(true;false);true" (part 1 5 0 12)
    ∷ on "true;(false;false)" (part 2 11 5 18)
    ∷ on "true;;" (nothing_to_show (refused 8 in_text 5))
    ∷ on "false; d > 3" (nothing_to_show (refused 13 in_text 9))
    ∷ on "false; 1" (nothing_to_show (refused 13 in_text 5))
    ∷ on "1" (nothing_to_show (refused 14 in_text 0))
    ∷ []

-- a print has no parentheses round a left ";", so that its parts are others
abbrev pub print_explained : List ℕ → Answer Reason
print_explained text = tree text >>= λ t. ok (explain_answer (print t) the_keys the_entry)

abbrev pub prints : List (OnText Reason)
prints = on "(true;false);true" (ok (part 2 7 7 12)) ∷ on "true;(false;true)" (ok (part 2 14 7 21)) ∷ []

-- "For an entry refused with 20 at a key record, name the key instead"

abbrev pub key : ℕ → ℕ → ℕ → ℕ → Reason
key place index from to = at_key place index (record { from = from; to = to })

-- the marked entry with a bad record of key v, which may not be absent, and with bad ones of r and o
abbrev pub entry_with : ℕ → ℕ → ℕ → ℕ → List ℕ
entry_with priority present low mask =
    big_endian 4 priority
    ++ match_record present 0 present 0
    ++ match_record 1 0 0x20 0xF0
    ++ match_record 1 2 0xC0 0
    ++ match_record 1 0 low 443
    ++ match_record 1 0 0 mask

abbrev pub entries : List (Example (List ℕ) Reason)
entries =
    on (entry_with 10 1 80 15) (part 2 8 8 13)
    ∷ on (entry_with 10 0 80 15) (key 4 0 16 17)
    ∷ on (entry_with 10 1 444 15) (key 112 3 256 257)
    ∷ on (entry_with 10 1 80 14) (key 148 4 336 337)
    ∷ on (entry_with 10 0 444 14) (key 4 0 16 17)
    ∷ on (entry_with (2 ^ 31) 1 80 15) (nothing_to_show (refused 20 in_entry 0))
    ∷ on (entry_with (2 ^ 31) 0 444 14) (nothing_to_show (refused 20 in_entry 0))
    ∷ on (drop 1 the_entry) (nothing_to_show (refused 19 in_entry 183))
    ∷ on (drop 164 the_entry) (nothing_to_show (refused 19 in_entry 20))
    ∷ []

-- names of 64 bytes and of 12; and where 20 stands at the first and the last of 32 records

abbrev pub long_names : List ℕ
long_names = key_record (replicate 64 97) 0 1 ++ key_record (bytes "hdr.ipv4.dst") 0 32

abbrev pub of_long_names : List (Example (List ℕ) Reason)
of_long_names =
    on (big_endian 4 0 ++ match_record 1 0 1 0 ++ match_record 1 0 1 0) (nothing_to_show (ok true))
    ∷ on (big_endian 4 0 ++ match_record 1 0 2 0 ++ match_record 1 0 1 0) (key 4 0 16 80)
    ∷ on (big_endian 4 0 ++ match_record 1 0 1 0 ++ match_record 1 1 1 0) (key 40 1 96 108)
    ∷ []

abbrev pub of_many_keys : List (Example ℕ Reason)
of_many_keys = on 4 (key 4 0 16 18) ∷ on 40 (key 40 1 96 98) ∷ on 1120 (key 1120 31 2496 2498) ∷ []

-- a list is refused before an entry
abbrev pub lists : List (Example (List ℕ) Reason)
lists =
    on (0 ∷ []) (nothing_to_show (refused 2 in_list 1))
    ∷ on (key_record (bytes "true") 0 1) (nothing_to_show (refused 3 in_list 0))
    ∷ on [] (nothing_to_show (refused 19 in_entry 184))
    ∷ []

pub record PartExamples : Type 0 where
  pub of_texts : AgreeOnTexts parts_shown texts
  pub parts_counted : Agree (λ text. parts text >>= λ ps. ok (length ps)) counts
  pub last_parts : Agree last_shown lasts
  pub of_judgements : Agree (λ s. explain_answer (bytes s) the_keys the_entry) judged
  pub of_prints : AgreeOnTexts print_explained prints
  pub of_entries : Agree (explain_answer (bytes "v == 1; false") the_keys) entries
  pub of_long_names_lem : Agree (explain_answer (bytes "true") long_names) of_long_names
  pub of_many_keys_lem : Agree (λ at. reason_for (many_keys 32) (refused 20 in_entry at)) of_many_keys
  pub of_lists : Agree (λ list. explain_answer (bytes "true") list the_entry) lists
