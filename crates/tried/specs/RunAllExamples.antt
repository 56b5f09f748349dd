-- A table in one call, by example: entries that are accepted, violated and refused, side by side; a length that is a byte short or over; answers exactly
-- as many as there are entries, one fewer, and more, of which the later ones stay; the steps of all; and what is refused before anything is judged.
use Rattle.std.specs.Prelude.{ℕ, ◌-◌, ◌^◌, ◌≡◌, true, false, List, [], ◌∷◌, ◌++◌, take, drop, replicate, Ok}
use Rattle.paper.specs.declared.Verdict.TheVariants.{Accepted, Violated}
use Prim.Native.String as S
use Rattle.paper.specs.declared.Place.TheVariants as P
use Rattle.paper.specs.Answers.{Answer, ok, refused, ◌>>=◌, in_list, in_entry, in_blocks, in_buffer, refusal}
use Rattle.paper.specs.Numbers.{big_endian}
use Rattle.paper.specs.Tokens.{bytes}
use Rattle.paper.specs.Blocks.{blocks_of}
use Rattle.paper.specs.Translating.{code_of}
use Rattle.paper.specs.Calls.{restriction, run_answer}
use Rattle.paper.specs.RunAll.{verdict_byte, steps_on, sum, Verdicts, ran_all, run_all_answer, run_all_bytes, running_all_says, ran_over}
use Rattle.paper.specs.RunAllRight.{entry_at, together, judgement_byte}
use Rattle.paper.specs.Promised.{RunAllPromised}
use Rattle.tried.specs.MarkedJudgements.{the_keys, the_entry}
use Rattle.tried.specs.CaseFour.{the_block}
use Rattle.tried.specs.BlockExamples.{single}
use Rattle.tried.specs.AnswerExamples.{short_list, repeating_list, bad_code, bad_block}
use Rattle.tried.specs.CountExamples.{other_value, bad_record, bad_priority}

-- case 4's block, "v == 1", on five entries of 184 bytes
abbrev pub the_table : List ℕ
the_table = the_entry ++ other_value ++ bad_record ++ bad_priority ++ the_entry

abbrev pub verdicts : List ℕ → ℕ → Verdicts
verdicts bs n = record { bytes = bs; steps = n }

-- four steps of each that is judged, and none of one that is refused
pub record OwnExample : Type 0 where
  pub verdicts : ran_all the_keys the_block the_table (replicate 5 9) ≡ ok (verdicts (1 ∷ 2 ∷ 0 ∷ 0 ∷ 1 ∷ []) 12)
  pub answer : run_all_answer the_keys the_block the_table (replicate 5 9) ≡ ok (record { entries = 5; steps = 12 })
  pub written : run_all_bytes the_keys the_block the_table (replicate 5 9) ≡ 1 ∷ 2 ∷ 0 ∷ 0 ∷ 1 ∷ []
  pub later_stay : run_all_bytes the_keys the_block the_table (replicate 7 9) ≡ 1 ∷ 2 ∷ 0 ∷ 0 ∷ 1 ∷ 9 ∷ 9 ∷ []
  pub promised : RunAllPromised the_keys the_block the_table (replicate 6 9)
      (record { answer = ran_over 5 12; bytes = 1 ∷ 2 ∷ 0 ∷ 0 ∷ 1 ∷ 9 ∷ [] })

-- what `run` says of each
pub record Runs : Type 0 where
  pub accepted : run_answer the_keys the_block the_entry ≡ ok (record { accepted = true; steps = 4 })
  pub violated : run_answer the_keys the_block other_value ≡ ok (record { accepted = false; steps = 4 })
  pub refused_record : run_answer the_keys the_block bad_record ≡ refused 20 in_entry 112
  pub refused_priority : run_answer the_keys the_block bad_priority ≡ refused 20 in_entry 0

-- "a byte for each entry .. (accepted, violated, refused 20)"
pub record Told : Type 0 where
  pub accepted : verdict_byte (ok (record { accepted = true; steps = 7 })) ≡ 1
  pub violated : verdict_byte (ok (record { accepted = false; steps = 7 })) ≡ 2
  pub refusing : verdict_byte (refused 20 in_entry 112) ≡ 0
  pub steps : steps_on (ok (record { accepted = false; steps = 7 })) ≡ 7
  pub no_steps : steps_on (refused 20 in_entry 112) ≡ 0
  pub summed : sum (4 ∷ 0 ∷ 10 ∷ []) ≡ 14
  pub judged : judgement_byte (Ok Accepted) ≡ 1
  pub judged_violated : judgement_byte (Ok Violated) ≡ 2
  pub judged_refused : judgement_byte (refusal 20 (P.Entry 112)) ≡ 0
  -- and of the answer of the call
  pub answer : running_all_says (ran_over 5 12) ≡ ok (record { entries = 5; steps = 12 })
  pub refusal : running_all_says (refusal 15 (P.Buffer 4)) ≡ refused 15 in_buffer 4

-- the length: none at all, a byte, a byte short of one and of two, and a byte over
pub record Lengths : Type 0 where
  pub none : ran_all the_keys the_block [] [] ≡ ok (verdicts [] 0)
  pub none_answered : run_all_answer the_keys the_block [] (9 ∷ []) ≡ ok (record { entries = 0; steps = 0 })
  pub none_written : run_all_bytes the_keys the_block [] (9 ∷ []) ≡ 9 ∷ []
  pub one_byte : ran_all the_keys the_block (0 ∷ []) (9 ∷ []) ≡ refused 19 in_entry 1
  pub short : ran_all the_keys the_block (take 183 the_entry) (9 ∷ []) ≡ refused 19 in_entry 183
  pub whole : ran_all the_keys the_block the_entry (9 ∷ []) ≡ ok (verdicts (1 ∷ []) 4)
  pub longer : ran_all the_keys the_block (the_entry ++ (0 ∷ [])) (9 ∷ []) ≡ refused 19 in_entry 185
  -- as many bytes over as an entry without keys has
  pub four_over : ran_all the_keys the_block (the_entry ++ replicate 4 0) (9 ∷ []) ≡ refused 19 in_entry 188
  pub second_short : ran_all the_keys the_block (the_entry ++ take 183 the_entry) (replicate 2 9) ≡ refused 19 in_entry 367
  pub cut_unchanged : run_all_bytes the_keys the_block (the_entry ++ (0 ∷ [])) (7 ∷ 8 ∷ []) ≡ 7 ∷ 8 ∷ []

-- the answers: one fewer than there are entries, none, and as many
pub record Answers : Type 0 where
  pub one_fewer : ran_all the_keys the_block the_table (replicate 4 9) ≡ refused 15 in_buffer 4
  pub fewer_unchanged : run_all_bytes the_keys the_block the_table (5 ∷ 6 ∷ 7 ∷ 8 ∷ []) ≡ 5 ∷ 6 ∷ 7 ∷ 8 ∷ []
  pub none : ran_all the_keys the_block the_entry [] ≡ refused 15 in_buffer 0
  pub promised : RunAllPromised the_keys the_block the_table (replicate 4 9)
      (record { answer = refusal 15 (P.Buffer 4); bytes = replicate 4 9 })

-- without keys an entry has 4 bytes: one instruction, one step
pub record NoKeys : Type 0 where
  pub two : ran_all [] single (big_endian 4 3 ++ big_endian 4 (2 ^ 31) ++ big_endian 4 (2 ^ 31 - 1)) (replicate 3 9) ≡ ok (verdicts (1 ∷ 0 ∷ 1 ∷ []) 2)
  pub short : ran_all [] single (replicate 3 0) (9 ∷ []) ≡ refused 19 in_entry 3
  pub longer : ran_all [] single (replicate 5 0) (9 ∷ []) ≡ refused 19 in_entry 5

-- entries that take unlike steps: where the first part of "&&" is false, the second is passed over

abbrev pub by_text : S.String → List ℕ → List ℕ → Answer Verdicts
by_text text entries answers =
    restriction (bytes text) []
    >>= λ r. ran_all [] (blocks_of 0 (code_of r.keys r.root)) entries answers

pub record Steps : Type 0 where
  pub full : by_text "::priority < 10 && ::priority != 3" (big_endian 4 9) (9 ∷ []) ≡ ok (verdicts (1 ∷ []) 8)
  pub passed_over : by_text "::priority < 10 && ::priority != 3" (big_endian 4 10) (9 ∷ []) ≡ ok (verdicts (2 ∷ []) 4)
  pub all : by_text "::priority < 10 && ::priority != 3" (big_endian 4 9 ++ big_endian 4 10 ++ big_endian 4 (2 ^ 31) ++ big_endian 4 3) (replicate 4 9)
      ≡ ok (verdicts (1 ∷ 2 ∷ 0 ∷ 2 ∷ []) 20)

-- the list first, then the blocks, then the length, then the answers; each field has a fault of two stages that follow one another
pub record InOrder : Type 0 where
  pub list_first : ran_all short_list bad_block (0 ∷ []) [] ≡ refused 2 in_list 79
  pub records_before_blocks : ran_all repeating_list bad_block (0 ∷ []) [] ≡ refused 4 in_list 80
  pub sizes_before_blocks : ran_all the_keys (take 511 the_block) (0 ∷ []) [] ≡ refused 16 in_blocks 511
  pub blocks_before_code : ran_all the_keys bad_block (0 ∷ []) [] ≡ refused 17 in_blocks 0
  pub code_before_length : ran_all the_keys bad_code (0 ∷ []) [] ≡ refused 18 in_blocks 4
  pub length_before_answers : ran_all the_keys the_block (the_entry ++ (0 ∷ [])) [] ≡ refused 19 in_entry 185
  pub blocks_unchanged : run_all_bytes the_keys bad_code the_entry (7 ∷ []) ≡ 7 ∷ []
  pub answered : run_all_answer the_keys bad_code the_entry (7 ∷ []) ≡ refused 18 in_blocks 4

-- where an entry lies, and two stretches
pub record Stretches : Type 0 where
  pub first : entry_at [] (1 ∷ 2 ∷ 3 ∷ 4 ∷ 5 ∷ 6 ∷ 7 ∷ 8 ∷ []) 0 ≡ 1 ∷ 2 ∷ 3 ∷ 4 ∷ []
  pub second : entry_at [] (1 ∷ 2 ∷ 3 ∷ 4 ∷ 5 ∷ 6 ∷ 7 ∷ 8 ∷ []) 1 ≡ 5 ∷ 6 ∷ 7 ∷ 8 ∷ []
  pub early : ran_all the_keys the_block (take 368 the_table) (replicate 2 9) ≡ ok (verdicts (1 ∷ 2 ∷ []) 8)
  pub late : ran_all the_keys the_block (drop 368 the_table) (replicate 3 9) ≡ ok (verdicts (0 ∷ 0 ∷ 1 ∷ []) 4)
  pub both : together (verdicts (1 ∷ 2 ∷ []) 8) (verdicts (0 ∷ 0 ∷ 1 ∷ []) 4) ≡ verdicts (1 ∷ 2 ∷ 0 ∷ 0 ∷ 1 ∷ []) 12
  -- of the steps 64 bits are kept
  pub wrapped : together (verdicts [] (2 ^ 64 - 1)) (verdicts [] 3) ≡ verdicts [] 2

pub record RunAllExamples : Type 0 where
  pub own : OwnExample
  pub runs : Runs
  pub told : Told
  pub lengths : Lengths
  pub answers : Answers
  pub no_keys : NoKeys
  pub steps : Steps
  pub in_order : InOrder
  pub stretches : Stretches
