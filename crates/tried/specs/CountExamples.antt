-- 02 m by example: its own, line by line; files that are empty, cut, or of entries without keys; parts that are false together; refused entries; and
-- what is refused before anything is counted.
use Rattle.std.specs.Prelude.{ℕ, ◌*◌, ◌≡◌, List, [], ◌∷◌, ◌++◌, take, Ok}
use Prim.Native.String as S
use Rattle.paper.specs.declared.Place.TheVariants as P
use Rattle.paper.specs.Answers.{ok, refused, in_text, in_list, in_entry, refusal}
use Rattle.paper.specs.Numbers.{big_endian}
use Rattle.paper.specs.Tokens.{bytes}
use Rattle.paper.specs.Keys.{Key}
use Rattle.paper.specs.Entry.{match_record}
use Rattle.tried.specs.MarkedJudgements.{the_keys, the_entry}
use Rattle.tried.specs.AnswerExamples.{short_list}
use Rattle.paper.specs.Counting.{entry_size, whole_in, Counts, Totals, few_entries, counted, count_answer, count_numbers, counting_says, output_for, count_output}

abbrev pub the_text : S.String
the_text = "v == 1; ::priority < 10"

-- "01's entry twice followed by three more bytes"
abbrev pub the_file : List ℕ
the_file = the_entry ++ the_entry ++ (1 ∷ 2 ∷ 3 ∷ [])

-- each with a line feed
abbrev pub as_lines : List S.String → List ℕ
as_lines [] = []
as_lines (s ∷ ss) = bytes s ++ (10 ∷ as_lines ss)

abbrev pub numbers : List ℕ → ℕ → ℕ → ℕ → ℕ → Counts
numbers ns a v r c = record { parts = ns; accepted = a; violated = v; refused = r; cut = c }

-- "the whole output is the six lines"
pub record OwnExample : Type 0 where
  pub lines : count_output (bytes the_text) the_keys the_file
      ≡ as_lines ("part 1 0" ∷ "part 2 2" ∷ "accepted 0" ∷ "violated 2" ∷ "refused 0" ∷ "cut 3" ∷ [])
  pub counts : counted (bytes the_text) the_keys the_file ≡ ok (numbers (0 ∷ 2 ∷ []) 0 2 0 3)
  pub totals : count_answer (bytes the_text) the_keys the_file
      ≡ ok (record { parts = 2; accepted = 0; violated = 2; refused = 0; cut = 3 })
  pub lent : count_numbers (bytes the_text) the_keys the_file (7 ∷ 8 ∷ 9 ∷ []) ≡ 0 ∷ 2 ∷ 9 ∷ []

-- 01's entry with another priority, with another v, with a record of r that breaks its rule, and with a priority that breaks its own

abbrev pub entry_with : ℕ → ℕ → ℕ → List ℕ
entry_with priority v low =
    big_endian 4 priority
    ++ match_record 1 0 v 0
    ++ match_record 1 0 0x20 0xF0
    ++ match_record 1 2 0xC0 0
    ++ match_record 1 0 low 443
    ++ match_record 0 0 0 0

abbrev pub low_priority : List ℕ
low_priority = entry_with 9 1 80

abbrev pub other_value : List ℕ
other_value = entry_with 10 0 80

abbrev pub bad_record : List ℕ
bad_record = entry_with 9 1 444

abbrev pub bad_priority : List ℕ
bad_priority = entry_with 0x80000000 0 80

pub record Files : Type 0 where
  -- no entry, and no line of a cut one
  pub empty : count_output (bytes the_text) the_keys []
      ≡ as_lines ("part 1 0" ∷ "part 2 0" ∷ "accepted 0" ∷ "violated 0" ∷ "refused 0" ∷ [])
  -- one whole, and none that is cut; a byte short of it; and a byte more
  pub whole : counted (bytes the_text) the_keys low_priority ≡ ok (numbers (0 ∷ 0 ∷ []) 1 0 0 0)
  pub short : counted (bytes the_text) the_keys (take 183 low_priority) ≡ ok (numbers (0 ∷ 0 ∷ []) 0 0 0 183)
  pub longer : counted (bytes the_text) the_keys (low_priority ++ (0 ∷ [])) ≡ ok (numbers (0 ∷ 0 ∷ []) 1 0 0 1)
  -- a cut one is not judged: its bytes are those of one that is refused
  pub cut : counted (bytes the_text) the_keys (low_priority ++ big_endian 4 0x80000000) ≡ ok (numbers (0 ∷ 0 ∷ []) 1 0 0 4)
  -- without keys an entry has 4 bytes
  pub no_keys : counted (bytes "::priority < 10; ::priority != 3") [] (big_endian 4 3 ++ big_endian 4 10 ++ big_endian 4 9 ++ (1 ∷ []))
      ≡ ok (numbers (1 ∷ 1 ∷ []) 1 2 0 1)

pub record Numbers : Type 0 where
  -- each part on its own, not only the first that is false
  pub both_false : counted (bytes the_text) the_keys (other_value ++ the_entry) ≡ ok (numbers (1 ∷ 2 ∷ []) 0 2 0 0)
  pub one_false : counted (bytes the_text) the_keys (entry_with 9 0 80) ≡ ok (numbers (1 ∷ 0 ∷ []) 0 1 0 0)
  -- a refused entry is in no part
  pub refused : counted (bytes "false; true") the_keys (bad_record ++ bad_priority ++ the_entry) ≡ ok (numbers (1 ∷ 0 ∷ []) 0 1 2 0)
  -- 02 c's parts: those of parentheses are one
  pub enclosed : counted (bytes "(v == 1; ::priority < 10); false") the_keys (the_entry ++ low_priority) ≡ ok (numbers (1 ∷ 2 ∷ []) 0 2 0 0)
  pub trailing : counted (bytes "v == 1;") the_keys (the_entry ++ other_value) ≡ ok (numbers (1 ∷ []) 1 1 0 0)

-- numbers of which no two are the same, so that none stands for another: three parts, none accepted, one violated, two refused, four bytes cut

abbrev pub mixed_file : List ℕ
mixed_file = bad_record ++ bad_priority ++ the_entry ++ (1 ∷ 2 ∷ 3 ∷ 4 ∷ [])

abbrev pub mixed_totals : Totals
mixed_totals = record { parts = 3; accepted = 0; violated = 1; refused = 2; cut = 4 }

pub record Apart : Type 0 where
  pub totals : count_answer (bytes "true; false; true") the_keys mixed_file ≡ ok mixed_totals
  pub lines : count_output (bytes "true; false; true") the_keys mixed_file
      ≡ as_lines ("part 1 0" ∷ "part 2 1" ∷ "part 3 0" ∷ "accepted 0" ∷ "violated 1" ∷ "refused 2" ∷ "cut 4" ∷ [])
  -- and of the answer of the call
  pub told : counting_says (Ok (record { parts = 3; accepted = 0; violated = 1; refused = 2; cut = 4 })) ≡ ok mixed_totals
  pub refusal_told : counting_says (refusal 25 (P.Entry 4000000)) ≡ refused 25 in_entry 4000000

-- the list and the text first, then 25; nothing else is written, and no number that is lent is changed
pub record Refusals : Type 0 where
  pub text : counted (bytes "") the_keys the_file ≡ refused 8 in_text 0
  pub list_before_text : counted (bytes "") short_list [] ≡ refused 2 in_list 79
  pub types : counted (bytes "d > 3") the_keys [] ≡ refused 13 in_text 2
  pub octal : counted (bytes "v == 0o1") the_keys [] ≡ refused 22 in_text 5
  pub bits_lost : counted (bytes "v == 2") the_keys [] ≡ refused 23 in_text 5
  pub text_line : count_output (bytes "") the_keys the_file ≡ as_lines ("refusal 8 0" ∷ [])
  pub list_line : count_output (bytes "true") short_list the_file ≡ as_lines ("refusal 2 79" ∷ [])
  pub unchanged : count_numbers (bytes "") the_keys the_file (7 ∷ 8 ∷ 9 ∷ []) ≡ 7 ∷ 8 ∷ 9 ∷ []
  -- 1,000,000 are counted, and one more is not
  pub most : (ks : List Key) (s : List ℕ) → whole_in ks s ≡ 1000000 → few_entries ks s ≡ ok tt
  pub one_more : (ks : List Key) (s : List ℕ) → whole_in ks s ≡ 1000001 → few_entries ks s ≡ refused 25 in_entry (1000000 * entry_size ks)
  pub one_more_line : (at : ℕ) → output_for (refused 25 in_entry at) ≡ as_lines ("refusal 25" ∷ [])

pub record CountExamples : Type 0 where
  pub own : OwnExample
  pub files : Files
  pub numbers : Numbers
  pub apart : Apart
  pub refusals : Refusals
