-- 01, "Refusal numbers", the table by example: for each row an input that has its fault, with the number and the place; which of two
-- faults wins; and the stages of each call, in their order.
use Rattle.std.specs.Prelude.{ℕ, ◌^◌, ◌≡◌, ◌⊎◌, true, List, [], ◌∷◌, ◌++◌, set, replicate}
use Rattle.paper.specs.Answers.{Input, in_text, in_list, in_entry, in_blocks, in_buffer}
use Rattle.paper.specs.Numbers.{big_endian}
use Rattle.paper.specs.Tokens.{plain, bytes, not_sign, sequel, less}
use Rattle.paper.specs.Keys.{key_record, exact, Key, layout_rule}
use Rattle.paper.specs.Grammar.{Tree, truth, number, key, field, attribute, prefixed, joined, compared}
use Rattle.paper.specs.Calls.{Restriction}
use Rattle.paper.specs.Faults.{Faults, TextSize, ListSize, ListRecords, TextTokens, TreeTypes, RootType, BufferSize, BlocksSize, BlocksLayout, BlocksCode, EntrySize, EntryRules, EntriesSize, AnswersSize, LendingSize}
use Rattle.paper.specs.Table.{Sooner, Wins, Stage, stage, Decided, Clear, read_stages, check_stages, judge_stages, translate_stages, load_stages, run_stages, print_stages, count_stages, run_all_stages}
use Rattle.tried.specs.KeyExamples.{a_key}
use Rattle.tried.specs.BlockExamples.{row, block, alone, push_true, conjoin, first_block, last_block}
use Rattle.tried.specs.AnswerExamples.{long_text, short_list, repeating_list}
use Rattle.paper.specs.Entry.{match_record}

-- one exact key of 8 bits
abbrev pub e : List Key
e = a_key (bytes "e") exact 8 ∷ []

-- an unknown key, an int, and the text `true` with no keys
abbrev pub z : Tree
z = key 5 (bytes "z")

abbrev pub one : Tree
one = number 2 (plain 1)

abbrev pub true_text : Restriction
true_text = record { keys = []; root = truth 0 true }

-- the rows, each at an input that has its fault; 7 to 10 are about all that went before, or could follow
pub record Rows : Type 0 where
  pub row_1 : TextSize long_text 1 4096
  pub row_2_uneven : ListSize short_list 2 79
  pub row_2_over : ListSize (replicate 2640 0) 2 2640
  pub row_3 : ListRecords layout_rule (key_record (bytes "l") 0 8 ++ key_record (bytes "k") 5 8) 3 80
  pub row_4 : ListRecords layout_rule repeating_list 4 80
  pub row_5 : TextTokens (bytes "a @") 5 2
  pub row_6 : TextTokens (bytes "a 340282366920938463463374607431768211456") 6 2
  pub row_11 : TreeTypes e z 11 5
  pub row_11_of_a_field : TreeTypes e (field 5 (bytes "z") 8 (bytes "value")) 11 5
  pub row_12 : TreeTypes e (field 5 (bytes "e") 8 (bytes "mask")) 12 8
  pub row_12_of_an_attribute : TreeTypes e (attribute 5 7 (bytes "prio")) 12 7
  pub row_13_of_a_prefix : TreeTypes e (prefixed 1 not_sign one) 13 1
  pub row_13_of_a_join : TreeTypes e (joined 4 sequel (truth 0 true) one) 13 4
  pub row_13_of_a_comparison : TreeTypes e (compared 4 less (truth 0 true) one) 13 4
  pub in_an_operand : TreeTypes e (prefixed 1 not_sign z) 11 5
  pub on_the_left_of_a_join : TreeTypes e (joined 7 sequel z one) 11 5
  pub on_the_right_of_a_join : TreeTypes e (joined 3 sequel one z) 11 5
  pub on_the_left_of_a_comparison : TreeTypes e (compared 7 less z one) 11 5
  pub on_the_right_of_a_comparison : TreeTypes e (compared 3 less one z) 11 5
  pub row_14 : RootType e one 14 2
  pub row_15 : BufferSize true_text (replicate 511 0) 15 511
  pub row_16_none : BlocksSize [] 16 0
  pub row_16_uneven : BlocksSize (replicate 511 0) 16 511
  pub row_17 : BlocksLayout 0 (first_block ++ set last_block 511 0xAA) 17 512
  pub row_18 : BlocksCode [] (block 0 1 (alone (row 6 0 0)) 1 0) 18 4
  -- a skip that stands on one bool, and two are held where it lands, at the end or before it; one that stands on two, and one is held there
  pub row_18_over_a_push : BlocksCode [] (block 0 3 (push_true ++ row 13 0 1 ++ push_true ++ replicate 440 0) 3 0) 18 24
  pub row_18_before_the_end : BlocksCode [] (block 0 4 (push_true ++ row 13 0 1 ++ push_true ++ conjoin ++ replicate 420 0) 4 0) 18 24
  pub row_18_over_a_join : BlocksCode [] (block 0 4 (push_true ++ push_true ++ row 13 0 1 ++ conjoin ++ replicate 420 0) 4 0) 18 44
  pub row_18_at_the_end : BlocksCode [] (block 0 1 (alone (row 5 0 0)) 1 0) 18 512
  pub row_19 : EntrySize e (big_endian 3 0) 19 3
  -- of a table: a byte over, and one answer for two entries
  pub row_19_of_many : EntriesSize [] (replicate 9 0) 19 9
  pub row_15_of_answers : AnswersSize [] (replicate 8 0) (0 ∷ []) 15 1
  pub row_20_priority : EntryRules e (big_endian 4 (2 ^ 31)) 20 0
  pub row_20 : EntryRules e (big_endian 4 0 ++ match_record 1 0 256 0) 20 4
  pub row_21_over_the_limit : LendingSize (replicate 4097 97) (replicate 5000 0) 21 5000
  pub row_21_over_the_buffer : LendingSize (bytes "a ; b") (replicate 4 0) 21 4

-- faults given by a list of them, with a number and a place each
abbrev pub one_of : ℕ → ℕ → Faults
one_of n at m to = (m ≡ n) × (to ≡ at)

abbrev pub two_of : ℕ → ℕ → ℕ → ℕ → Faults
two_of n at n' at' m to = one_of n at m to ⊎ one_of n' at' m to

abbrev pub none_of : Faults
none_of m to = ⊥

-- "In a stage the earliest place wins; at one place the lower number wins."
pub record Order : Type 0 where
  pub earlier : Sooner 4 0 3 80
  pub lower : Sooner 3 80 4 80
  pub earliest_wins : Wins (two_of 3 80 4 0) 4 0
  pub lowest_wins : Wins (two_of 4 80 3 80) 3 80
  -- "Stages run in the order below": the first that has a fault decides, in its input
  pub decided : Decided (stage in_text none_of ∷ stage in_list (one_of 4 80) ∷ stage in_entry (one_of 19 0) ∷ []) 4 in_list 80
  pub clear : Clear (stage in_text none_of ∷ stage in_list none_of ∷ [])

-- "Stages: 1; 2; 3 and 4; 5 to 7; 8 to 10; 11 to 13; 14; 15; 16; 17; 18; 19; 20", "those that a call has": the input of each. 22 is with 5
-- to 7, and 23 with 11 to 13

abbrev pub inputs : List Stage → List Input
inputs [] = []
inputs (s ∷ ss) = s.input ∷ inputs ss

pub record InputsInOrder : Type 0 where
  -- 1; 5 to 7 and 22; 8 to 10
  pub read : inputs (read_stages []) ≡ in_text ∷ in_text ∷ in_text ∷ []
  -- 1; 2; 3 and 4; 5 to 7 and 22; 8 to 10; 11 to 13 and 23; 14
  pub check : inputs (check_stages [] []) ≡ in_text ∷ in_list ∷ in_list ∷ in_text ∷ in_text ∷ in_text ∷ in_text ∷ []
  -- and 19; 20
  pub judge : inputs (judge_stages [] [] []) ≡ inputs (check_stages [] []) ++ (in_entry ∷ in_entry ∷ [])
  -- and 15
  pub translate : inputs (translate_stages [] [] []) ≡ inputs (check_stages [] []) ++ (in_buffer ∷ [])
  -- 2; 3 and 4; 16; 17; 18
  pub load : inputs (load_stages [] []) ≡ in_list ∷ in_list ∷ in_blocks ∷ in_blocks ∷ in_blocks ∷ []
  -- and 19; 20
  pub run : inputs (run_stages [] [] []) ≡ inputs (load_stages [] []) ++ (in_entry ∷ in_entry ∷ [])
  -- those of read, and 21
  pub print : inputs (print_stages [] []) ≡ inputs (read_stages []) ++ (in_buffer ∷ [])
  -- those of check, and 25
  pub count : inputs (count_stages [] [] []) ≡ inputs (check_stages [] []) ++ (in_entry ∷ [])
  -- those of load, and 19; 15
  pub run_all : inputs (run_all_stages [] [] [] []) ≡ inputs (load_stages [] []) ++ (in_entry ∷ in_buffer ∷ [])

pub record FaultExamples : Type 0 where
  pub rows : Rows
  pub order : Order
  pub inputs_in_order : InputsInOrder
