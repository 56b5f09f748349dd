-- 01, "Refusal numbers", by example: each case of each public answer, and of two faults that an input has the one whose stage runs first.
use Rattle.std.specs.Prelude.{ℕ, ◌^◌, ◌≡◌, true, false, List, [], ◌∷◌, ◌++◌, take, set, replicate, Ok}
use Rattle.paper.specs.Named.{summed}
use Rattle.paper.specs.declared.Verdict.TheVariants.{Accepted, Violated}
use Rattle.std.specs.Borrow.{Bor}
use Rattle.paper.specs.declared.Place.TheVariants as P
use Rattle.paper.specs.declared.Explanation.TheVariants as X
use Rattle.paper.specs.declared.Rechecking.TheVariants as K
use Rattle.paper.specs.Answers.{refused, in_text, in_list, in_entry, in_blocks, refusal, ended}
use Rattle.paper.specs.Numbers.{big_endian}
use Rattle.paper.specs.Tokens.{bytes}
use Rattle.paper.specs.Calls.{read_answer, check_answer, judge_answer, translate_answer, load_answer, run_answer}
use Rattle.paper.specs.Promised.{ReadPromised, CheckPromised, JudgePromised, TranslatePromised, LoadPromised, RunPromised, ExplainPromised, SummarizePromised, RecheckPromised, verdict_in, judgement_of_run}
use Rattle.paper.specs.Pieces.{ExplainedPromised}
use Rattle.tried.specs.MarkedJudgements.{the_keys, the_entry}
use Rattle.tried.specs.CaseFour.{the_block}
use Rattle.tried.specs.BlockExamples.{row, block_with, alone}
use Rattle.paper.specs.Keys.{key_record}
use Rattle.tried.specs.PartExamples.{entry_with}

-- inputs with faults

-- 4,097 bytes that form no token
abbrev pub long_text : List ℕ
long_text = replicate 4097 64

abbrev pub short_list : List ℕ
short_list = replicate 79 0

abbrev pub broken_list : List ℕ
broken_list = replicate 80 0

abbrev pub repeating_list : List ℕ
repeating_list = key_record (bytes "k") 0 8 ++ key_record (bytes "k") 1 8

abbrev pub short_entry : List ℕ
short_entry = take 183 the_entry

abbrev pub broken_entry : List ℕ
broken_entry = big_endian 4 (2 ^ 31) ++ replicate 180 0

-- the range of r is from 444 to 443
abbrev pub bad_record : List ℕ
bad_record = entry_with 10 1 444 15

-- a block whose one instruction is a skip over nothing, laid out well; the same with a check that is wrong; and one that says false
abbrev pub bad_code : List ℕ
bad_code = block_with (0xCD ∷ 0x10 ∷ 0x0D ∷ 0x07 ∷ []) 0 1 (alone (row 13 0 0)) 1 5

abbrev pub bad_block : List ℕ
bad_block = set bad_code 511 0xAA

abbrev pub false_block : List ℕ
false_block = block_with (0xFD ∷ 0x04 ∷ 0x01 ∷ 0x07 ∷ []) 0 1 (alone (row 1 0 0)) 1 5

-- "A refusal's place says which input it lies in (text, key list, entry, blocks, buffer) and a byte offset." For each call, each case of
-- its enum and each input that its refusals may lie in
pub record Answers : Type 0 where
  pub reads : ReadPromised (bytes "v == 1") (Ok 3)
  pub read_refuses_text : ReadPromised (bytes "v v") (refusal 8 (P.Text 2))
  pub checks : CheckPromised (bytes "v == 1") the_keys (Ok tt)
  pub check_refuses_text : CheckPromised (bytes "d > 3") the_keys (refusal 13 (P.Text 2))
  pub check_refuses_list : CheckPromised (bytes "true") repeating_list (refusal 4 (P.List 80))
  pub accepts : JudgePromised (bytes "v == 1") the_keys the_entry (Ok Accepted)
  pub violates : JudgePromised (bytes "v == 0") the_keys the_entry (Ok Violated)
  pub judge_refuses_text : JudgePromised (bytes "d > 3") the_keys the_entry (refusal 13 (P.Text 2))
  pub judge_refuses_list : JudgePromised (bytes "true") repeating_list the_entry (refusal 4 (P.List 80))
  pub judge_refuses_entry : JudgePromised (bytes "true") the_keys short_entry (refusal 19 (P.Entry 183))
  pub translates : TranslatePromised (bytes "v == 1") the_keys (replicate 514 0xAA)
      (record { answer = Ok 4; buffer = the_block ++ (0xAA ∷ 0xAA ∷ []) })
  pub translate_refuses_text : TranslatePromised (bytes "d > 3") the_keys (0xAA ∷ [])
      (record { answer = refusal 13 (P.Text 2); buffer = 0xAA ∷ [] })
  pub translate_refuses_list : TranslatePromised (bytes "true") repeating_list (0xAA ∷ [])
      (record { answer = refusal 4 (P.List 80); buffer = 0xAA ∷ [] })
  pub translate_refuses_buffer : TranslatePromised (bytes "true") the_keys (0xAA ∷ [])
      (record { answer = refusal 15 (P.Buffer 1); buffer = 0xAA ∷ [] })
  pub loads : LoadPromised the_keys false_block (Ok 1)
  pub load_refuses_list : LoadPromised repeating_list the_block (refusal 4 (P.List 80))
  pub load_refuses_blocks : LoadPromised the_keys bad_code (refusal 18 (P.Blocks 4))
  pub runs_to_accepted : RunPromised the_keys the_block the_entry (ended Accepted 4)
  pub runs_to_violated : RunPromised the_keys false_block the_entry (ended Violated 1)
  pub run_refuses_list : RunPromised repeating_list the_block the_entry (refusal 4 (P.List 80))
  pub run_refuses_blocks : RunPromised the_keys bad_code the_entry (refusal 18 (P.Blocks 4))
  pub run_refuses_entry : RunPromised the_keys the_block short_entry (refusal 19 (P.Entry 183))
  pub explains_part : ExplainPromised (bytes "v == 1; (r::low > 0; false)") the_keys the_entry (X.Part 2 19 8 27)
  pub explains_key : ExplainPromised (bytes "true") the_keys bad_record (X.Key 112 256 257)
  pub explains_accepted : ExplainPromised (bytes "v == 1") the_keys the_entry (X.Nothing (Ok Accepted))
  pub explain_refuses_text : ExplainPromised (bytes "d > 3") the_keys the_entry (X.Nothing (refusal 13 (P.Text 2)))
  pub explain_refuses_list : ExplainPromised (bytes "true") repeating_list the_entry (X.Nothing (refusal 4 (P.List 80)))
  pub explain_refuses_entry : ExplainPromised (bytes "true") the_keys short_entry (X.Nothing (refusal 19 (P.Entry 183)))
  pub explain_refuses_priority : ExplainPromised (bytes "true") the_keys broken_entry (X.Nothing (refusal 20 (P.Entry 0)))
  pub summarizes : SummarizePromised (bytes "v == 1; d::mask != 0") the_keys (summed 3 false)
  pub summarizes_mark : SummarizePromised (bytes "::priority < 10 || o == 1") the_keys (summed 16 true)
  pub summarize_refuses_text : SummarizePromised (bytes "d > 3") the_keys (refusal 13 (P.Text 2))
  pub summarize_refuses_list : SummarizePromised (bytes "true") repeating_list (refusal 4 (P.List 80))
  pub reuses : RecheckPromised (bytes "v == 1") the_keys the_entry (Ok Accepted) the_entry (K.Reused (Ok Accepted))
  pub reuses_violated : RecheckPromised (bytes "v == 1") the_keys the_entry (Ok Violated) the_entry (K.Reused (Ok Violated))
  pub reuses_refused : RecheckPromised (bytes "v == 1") the_keys the_entry (refusal 20 (P.Entry 4)) the_entry
      (K.Reused (refusal 20 (P.Entry 4)))
  pub rechecks : RecheckPromised (bytes "::priority < 11") the_keys the_entry (Ok Violated) (entry_with 11 1 80 15) (K.Judged (Ok Violated))
  pub recheck_refuses_text : RecheckPromised (bytes "d > 3") the_keys the_entry (Ok Accepted) the_entry (K.Judged (refusal 13 (P.Text 2)))
  pub recheck_refuses_list : RecheckPromised (bytes "true") repeating_list the_entry (Ok Accepted) the_entry (K.Judged (refusal 4 (P.List 80)))
  pub recheck_refuses_entry : RecheckPromised (bytes "true") the_keys the_entry (Ok Accepted) short_entry (K.Judged (refusal 19 (P.Entry 183)))

-- 02 g: the verdict of a run with its steps, and the judgement that a run comes to, its steps aside
pub record RunAnswers : Type 0 where
  pub in_steps : RunPromised the_keys the_block the_entry (verdict_in true 4)
  pub violated_in_steps : RunPromised the_keys false_block the_entry (verdict_in false 1)
  pub accepted : JudgePromised (bytes "v == 1") the_keys the_entry (judgement_of_run (ended Accepted 4))
  pub violated : JudgePromised (bytes "v == 0") the_keys the_entry (judgement_of_run (ended Violated 4))
  pub refused : JudgePromised (bytes "true") the_keys short_entry (judgement_of_run (refusal 19 (P.Entry 183)))

-- 02 c: "handed back as the piece itself": the text lies in block 7 from its byte 100 on, and the list in block 9 from its byte 1000 on

abbrev pub lies : ℕ → ℕ → List ℕ → Bor (List ℕ)
lies block offset s = record { ref_ptr = (block, offset); now = s }

pub record PieceAnswers : Type 0 where
  pub part : ExplainedPromised (lies 7 100 (bytes "v == 1; false")) (lies 9 1000 the_keys) the_entry (X.Part 2 8 8 13)
      (lies 7 108 (bytes "false")) (lies 9 0 [])
  pub key : ExplainedPromised (lies 7 100 (bytes "true")) (lies 9 1000 the_keys) bad_record (X.Key 112 256 257)
      (lies 7 0 []) (lies 9 1256 (bytes "r"))
  pub nothing : ExplainedPromised (lies 7 100 (bytes "true")) (lies 9 1000 the_keys) the_entry (X.Nothing (Ok Accepted))
      (lies 7 0 []) (lies 9 0 [])

-- "Stages: 1; 2; 3 and 4; 5 to 7; 8 to 10; 11 to 13; 14; 15; 16; 17; 18; 19; 20." Each field has a fault of two stages that follow one
-- another in a call
pub record InOrder : Type 0 where
  pub read_1_5 : read_answer long_text ≡ refused 1 in_text 4096
  pub read_5_8 : read_answer (bytes "true true @") ≡ refused 5 in_text 10
  pub check_1_2 : check_answer long_text short_list ≡ refused 1 in_text 4096
  pub check_2_5 : check_answer (bytes "@") short_list ≡ refused 2 in_list 79
  pub check_3_5 : check_answer (bytes "@") broken_list ≡ refused 3 in_list 0
  pub check_4_5 : check_answer (bytes "@") repeating_list ≡ refused 4 in_list 80
  pub check_5_8 : check_answer (bytes "true true @") the_keys ≡ refused 5 in_text 10
  pub check_8_11 : check_answer (bytes "z z") the_keys ≡ refused 8 in_text 2
  pub check_10_11 : check_answer (bytes "z == ipv4('x')") the_keys ≡ refused 10 in_text 10
  pub check_11_14 : check_answer (bytes "-z") the_keys ≡ refused 11 in_text 1
  pub check_13_14 : check_answer (bytes "--d") the_keys ≡ refused 13 in_text 1
  pub judge_14_19 : judge_answer (bytes "1") the_keys [] ≡ refused 14 in_text 0
  pub judge_19_20 : judge_answer (bytes "true") the_keys (broken_entry ++ (0 ∷ [])) ≡ refused 19 in_entry 185
  pub judge_20 : judge_answer (bytes "true") the_keys broken_entry ≡ refused 20 in_entry 0
  pub translate_14_15 : translate_answer (bytes "1") the_keys [] ≡ refused 14 in_text 0
  pub load_2_16 : load_answer short_list [] ≡ refused 2 in_list 79
  pub load_3_16 : load_answer broken_list [] ≡ refused 3 in_list 0
  pub load_4_16 : load_answer repeating_list [] ≡ refused 4 in_list 80
  pub load_16_17 : load_answer the_keys (take 511 bad_block) ≡ refused 16 in_blocks 511
  pub load_17_18 : load_answer the_keys bad_block ≡ refused 17 in_blocks 0
  pub run_2_16 : run_answer short_list [] [] ≡ refused 2 in_list 79
  pub run_16_19 : run_answer the_keys [] [] ≡ refused 16 in_blocks 0
  pub run_18_19 : run_answer the_keys bad_code [] ≡ refused 18 in_blocks 4

pub record AnswerExamples : Type 0 where
  pub answers : Answers
  pub of_runs : RunAnswers
  pub pieces : PieceAnswers
  pub in_order : InOrder
