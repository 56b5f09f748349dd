-- 02 n by example, with the marked keys and the marked entry: each key sways a text that names it, bare or by a field, and so does the
-- priority; records that a text does not name sway nothing, nor does a record that is spelled out; and of refused entries none of this holds.
-- And which operands of a text name keys, each compared with 0.
use Rattle.std.specs.Prelude.{ℕ, ◌^◌, ◌≡◌, Bool, true, false, List, [], ◌∷◌, ◌++◌, map, drop, replicate}
use Prim.Native.String as S
use Rattle.paper.specs.Answers.{Answer, ok, refused, ◌>>=◌, in_entry}
use Rattle.paper.specs.Numbers.{big_endian}
use Rattle.paper.specs.Tokens.{bytes}
use Rattle.paper.specs.Keys.{Kind, ternary, lpm, range, optional}
use Rattle.paper.specs.Entry.{head_size, match_record}
use Rattle.paper.specs.Calls.{tree, judge_answer, translate_buffer, run_answer}
use Rattle.paper.specs.Explained.{in_part, explain_answer}
use Rattle.paper.specs.Named.{summary_answer}
use Rattle.tried.specs.MarkedJudgements.{the_keys, the_entry}
use Rattle.tried.specs.Examples.{on, Agree, On}
use Rattle.paper.specs.Dependence.{spell_out, with_record, naming, against_zero}

-- a text that names key k alone and holds of the marked entry, and a record of k with which it does not

pub record Sway : Type 0 where
  pub text : S.String
  pub key : ℕ
  pub other : List ℕ

abbrev pub sways : S.String → ℕ → List ℕ → Sway
sways t k r = record { text = t; key = k; other = r }

abbrev pub swayed : Sway → List ℕ
swayed s = with_record the_entry s.key s.other

-- every key of 01's list, of each kind, bare and by each field of it
abbrev pub each_key : List Sway
each_key =
    sways "v == 1" 0 (match_record 1 0 0 0)
    ∷ sways "v::value == 1" 0 (match_record 1 0 0 0)
    ∷ sways "d != 0x20" 1 (match_record 1 0 0x20 0xFF)
    ∷ sways "d::value == 0x20" 1 (match_record 1 0 0x30 0xF0)
    ∷ sways "d::mask == 0xF0" 1 (match_record 1 0 0x20 0xFF)
    ∷ sways "p != 0xC0" 2 (match_record 1 8 0xC0 0)
    ∷ sways "p::value == 0xC0" 2 (match_record 1 2 0x80 0)
    ∷ sways "p::prefix_length == 2" 2 (match_record 1 3 0xC0 0)
    ∷ sways "r != 80" 3 (match_record 1 0 80 80)
    ∷ sways "r::low == 80" 3 (match_record 1 0 81 443)
    ∷ sways "r::high == 443" 3 (match_record 1 0 80 444)
    ∷ sways "o != 5" 4 (match_record 1 0 5 15)
    ∷ sways "o::value == 0" 4 (match_record 1 0 5 15)
    ∷ sways "o::mask == 0" 4 (match_record 1 0 0 15)
    ∷ []

pub record EachSways : Type 0 where
  pub named_alone : map (λ (s : Sway). summary_answer (bytes s.text) the_keys) each_key
      ≡ map (λ (s : Sway). ok (record { keys = 2 ^ s.key; priority = false })) each_key
  pub holds : map (λ (s : Sway). judge_answer (bytes s.text) the_keys the_entry) each_key ≡ map (λ (s : Sway). ok true) each_key
  pub fails : map (λ (s : Sway). judge_answer (bytes s.text) the_keys (swayed s)) each_key ≡ map (λ (s : Sway). ok false) each_key

-- the marked entry with another priority
abbrev pub at_priority : ℕ → List ℕ
at_priority n = big_endian 4 n ++ drop head_size the_entry

-- the operands of a text that name keys, in order, and the texts that compare them with 0
abbrev pub zero_texts : S.String → Answer (List (List ℕ))
zero_texts text = tree (bytes text) >>= λ t. ok (map against_zero (naming t))

abbrev pub OperandsNamed : Type 0
OperandsNamed =
    zero_texts "true; 5 == v -> !(d::mask == p) || ::priority != 3 && -r::low < 2"
    ≡ ok (bytes "v == 0" ∷ bytes "d::mask == 0" ∷ bytes "p == 0" ∷ bytes "r::low == 0" ∷ [])

pub record PrioritySways : Type 0 where
  pub named_alone : summary_answer (bytes "::priority == 10") the_keys ≡ ok (record { keys = 0; priority = true })
  pub judged : Agree (judge_answer (bytes "::priority == 10") the_keys) (on the_entry (ok true) ∷ on (at_priority 11) (ok false) ∷ [])

-- entries of which a text says the same: it is judged so, the same part is named, and its blocks take as many steps
pub record AllViolated (text : S.String) (entries : List (List ℕ)) (part place from to steps : ℕ) : Type 0 where
  pub judged : map (judge_answer (bytes text) the_keys) entries ≡ map (λ (e : List ℕ). ok false) entries
  pub explained : map (explain_answer (bytes text) the_keys) entries ≡ map (λ (e : List ℕ). in_part part place (record { from = from; to = to })) entries
  pub ran : map (run_answer the_keys (translate_buffer (bytes text) the_keys (replicate 512 0))) entries
      ≡ map (λ (e : List ℕ). ok (record { accepted = false; steps = steps })) entries

-- of a text that names v and d: other records of p, r and o, and another priority, each alone and three at once
abbrev pub others_changed : List (List ℕ)
others_changed =
    the_entry
    ∷ with_record the_entry 2 (match_record 1 8 0xC1 0)
    ∷ with_record the_entry 3 (match_record 0 0 0 0)
    ∷ with_record the_entry 4 (match_record 1 0 5 15)
    ∷ at_priority 99
    ∷ with_record (with_record (at_priority 99) 2 (match_record 0 0 0 0)) 3 (match_record 1 0 1 2)
    ∷ []

-- of an entry in which all that may be absent are: each spelled out, and all of them

abbrev pub absent_in : List ℕ
absent_in =
    big_endian 4 10 ++ match_record 1 0 1 0 ++ match_record 0 0 0 0 ++ match_record 0 0 0 0 ++ match_record 0 0 0 0 ++ match_record 0 0 0 0

abbrev pub spelled_as : S.String → Kind → ℕ → List ℕ
spelled_as name kind width = spell_out (record { name = bytes name; kind = kind; width = width; required = false })

abbrev pub spelled_out : List (List ℕ)
spelled_out =
    let d = spelled_as "d" ternary 8 in
    let p = spelled_as "p" lpm 8 in
    let r = spelled_as "r" range 16 in
    let o = spelled_as "o" optional 4 in
    absent_in
    ∷ with_record absent_in 1 d
    ∷ with_record absent_in 2 p
    ∷ with_record absent_in 3 r
    ∷ with_record absent_in 4 o
    ∷ with_record (with_record (with_record (with_record absent_in 1 d) 2 p) 3 r) 4 o
    ∷ []

-- "Refused entries are not covered.": a record that the text does not name, broken, refuses the entry
abbrev pub unnamed_broken : List (On Bool)
unnamed_broken = on the_entry (ok true) ∷ on (with_record the_entry 4 (match_record 1 0 5 7)) (refused 20 in_entry 148) ∷ []

pub record DependenceExamples : Type 0 where
  pub each_sways : EachSways
  pub priority_sways : PrioritySways
  pub operands_named : OperandsNamed
  pub others_do_not : AllViolated "v == 1; d::mask == 0" others_changed 2 16 8 20 10
  pub spelled_out_does_not : AllViolated "d::mask == 0; p::prefix_length == 0; o::mask == 0; r::high < 65535" spelled_out 4 59 51 66 21
  pub refused_not_covered : Agree (judge_answer (bytes "v == 1") the_keys) unnamed_broken
