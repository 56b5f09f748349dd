-- 01, "Blocks", the translation, by example: texts with their instructions, one text in bytes that has every instruction, and what a
-- buffer holds afterwards.
use Rattle.std.specs.Prelude.{ℕ, ◌≡◌, Bool, true, false, List, [], ◌∷◌, ◌++◌, replicate}
use Rattle.paper.specs.Answers.{Answer, ok, refused, ◌>>=◌, Ran, in_text, in_buffer}
use Rattle.paper.specs.Tokens.{bytes, equal, unequal, greater, at_least, less, at_most}
use Rattle.paper.specs.Keys.{exact, ternary, lpm, range, optional}
use Rattle.paper.specs.Entry.{entry_of}
use Rattle.paper.specs.Types.{value, mask, prefix_length, low, high}
use Rattle.paper.specs.Meaning.{both, either, if_then}
use Rattle.paper.specs.Code.{Instruction, push_bool, push_int, push_key, push_field, push_priority, invert, negate, convert, compare, connects, skip}
use Rattle.paper.specs.Blocks.{blocks_needed}
use Rattle.paper.specs.Translating.{code_of, conversions, joins, steps_of}
use Rattle.paper.specs.Calls.{restriction, judge_answer, translate_answer, translate_buffer, run_answer}
use Rattle.paper.specs.CodeCorrect.{needs, most_translated}
use Rattle.paper.specs.TranslationCorrect.{judged_in_steps}
use Rattle.tried.specs.MarkedJudgements.{the_keys, the_entry}
use Rattle.tried.specs.Examples.{on, OnText, AgreeOnTexts}
use Rattle.tried.specs.BlockExamples.{row}

-- with the marked keys v exact 1, d ternary 8, p lpm 8, r range 16, o optional 4
abbrev pub code_for : List ℕ → Answer (List Instruction)
code_for text = restriction text the_keys >>= λ r. ok (code_of r.keys r.root)

abbrev pub skips : Bool → Bool → ℕ → Instruction
skips from to over = skip (record { on = from; to = to; over = over })

-- each sort of node
abbrev pub leaves : List (OnText (List Instruction))
leaves =
    on "true" (ok (push_bool true ∷ []))
    ∷ on "false" (ok (push_bool false ∷ []))
    ∷ on "(1 == ipv4('0.0.0.7'))" (ok (push_int 1 ∷ push_int 7 ∷ compare equal ∷ []))
    ∷ on "d == d" (ok (push_key 1 ∷ push_key 1 ∷ compare equal ∷ []))
    ∷ on "d::value == d::mask" (ok (push_field value 1 ∷ push_field mask 1 ∷ compare equal ∷ []))
    ∷ on "r::low == r::high" (ok (push_field low 3 ∷ push_field high 3 ∷ compare equal ∷ []))
    ∷ on "p::prefix_length == ::priority" (ok (push_field prefix_length 2 ∷ push_priority ∷ compare equal ∷ []))
    ∷ on "!true" (ok (push_bool true ∷ invert ∷ []))
    ∷ on "-1 == 2" (ok (push_int 1 ∷ negate ∷ push_int 2 ∷ compare equal ∷ []))
    ∷ on "1 != 2" (ok (push_int 1 ∷ push_int 2 ∷ compare unequal ∷ []))
    ∷ on "1 > 2" (ok (push_int 1 ∷ push_int 2 ∷ compare greater ∷ []))
    ∷ on "1 >= 2" (ok (push_int 1 ∷ push_int 2 ∷ compare at_least ∷ []))
    ∷ on "1 < 2" (ok (push_int 1 ∷ push_int 2 ∷ compare less ∷ []))
    ∷ on "1 <= 2" (ok (push_int 1 ∷ push_int 2 ∷ compare at_most ∷ []))
    -- "";" and "&&" both give 10."
    ∷ on "true; false" (ok (push_bool true ∷ skips false false 2 ∷ push_bool false ∷ connects both ∷ []))
    ∷ on "true && false" (ok (push_bool true ∷ skips false false 2 ∷ push_bool false ∷ connects both ∷ []))
    ∷ on "true || false" (ok (push_bool true ∷ skips true true 2 ∷ push_bool false ∷ connects either ∷ []))
    ∷ on "true -> false" (ok (push_bool true ∷ skips false true 2 ∷ push_bool false ∷ connects if_then ∷ []))
    -- "Translation is postfix, left before right"; "directly after the left operand of every "and", "or" and "implies", landing after the join"
    ∷ on "true -> (false || !true)" (ok
    (push_bool true
    ∷ skips false true 6
    ∷ push_bool false
    ∷ skips true true 3
    ∷ push_bool true
    ∷ invert
    ∷ connects either
    ∷ connects if_then
    ∷ []))
    ∷ on "(true && false) || true" (ok
    (push_bool true
    ∷ skips false false 2
    ∷ push_bool false
    ∷ connects both
    ∷ skips true true 2
    ∷ push_bool true
    ∷ connects either
    ∷ []))
    ∷ []

-- "an operand that must change type is converted directly after its own code, once"
abbrev pub converted : List (OnText (List Instruction))
converted =
    on "v == 1" (ok (push_key 0 ∷ push_int 1 ∷ convert exact 1 ∷ compare equal ∷ []))
    ∷ on "1 == v" (ok (push_int 1 ∷ convert exact 1 ∷ push_key 0 ∷ compare equal ∷ []))
    ∷ on "-1 == v" (ok (push_int 1 ∷ negate ∷ convert exact 1 ∷ push_key 0 ∷ compare equal ∷ []))
    ∷ on "d == 1" (ok (push_key 1 ∷ push_int 1 ∷ convert ternary 8 ∷ compare equal ∷ []))
    ∷ on "1 != p" (ok (push_int 1 ∷ convert lpm 8 ∷ push_key 2 ∷ compare unequal ∷ []))
    ∷ on "r == ::priority" (ok (push_key 3 ∷ push_priority ∷ convert range 16 ∷ compare equal ∷ []))
    ∷ on "o == 1" (ok (push_key 4 ∷ push_int 1 ∷ convert optional 4 ∷ compare equal ∷ []))
    ∷ on "d == d::value" (ok (push_key 1 ∷ push_field value 1 ∷ convert ternary 8 ∷ compare equal ∷ []))
    ∷ on "p::value == p" (ok (push_field value 2 ∷ convert lpm 8 ∷ push_key 2 ∷ compare equal ∷ []))
    ∷ on "d::mask < 9" (ok (push_field mask 1 ∷ push_int 9 ∷ convert exact 8 ∷ compare less ∷ []))
    ∷ on "9 >= d::mask" (ok (push_int 9 ∷ convert exact 8 ∷ push_field mask 1 ∷ compare at_least ∷ []))
    ∷ []

-- "the nodes of the tree plus the conversions": how many of these there are
abbrev pub conversions_in : List ℕ → Answer ℕ
conversions_in text = restriction text the_keys >>= λ r. ok (conversions r.keys r.root)

abbrev pub counts : List (OnText ℕ)
counts =
    on "true" (ok 0)
    ∷ on "1 == 1" (ok 0)
    ∷ on "d == d" (ok 0)
    ∷ on "v == 1" (ok 1)
    ∷ on "1 == v" (ok 1)
    ∷ on "!(v == 1)" (ok 1)
    ∷ on "v == 1; true" (ok 1)
    ∷ on "true; v == 1" (ok 1)
    ∷ on "(v == 1) == (0 == v)" (ok 2)
    ∷ on "::priority < 1" (ok 0)
    ∷ on "p::prefix_length == 1" (ok 0)
    ∷ []

-- "The count of instructions grows by one for each join"
abbrev pub joins_in : List ℕ → Answer ℕ
joins_in text = restriction text the_keys >>= λ r. ok (joins r.root)

abbrev pub join_counts : List (OnText ℕ)
join_counts =
    on "true" (ok 0)
    ∷ on "1 == 1" (ok 0)
    ∷ on "d == d" (ok 0)
    ∷ on "d::value == d::mask" (ok 0)
    ∷ on "::priority < 10" (ok 0)
    ∷ on "!true" (ok 0)
    ∷ on "true; false" (ok 1)
    ∷ on "!(true && false)" (ok 1)
    ∷ on "true || false -> true" (ok 2)
    ∷ on "true; (false; true)" (ok 2)
    ∷ on "true == (true || true)" (ok 1)
    ∷ on "(true && true) == true" (ok 1)
    ∷ []

-- how many steps the code takes on the marked entry: a skip is a step, taken or not; what it passes over is none
abbrev pub steps_in : List ℕ → Answer ℕ
steps_in text = restriction text the_keys >>= λ r. entry_of r.keys the_entry >>= λ e. ok (steps_of r.keys e r.root)

abbrev pub step_counts : List (OnText ℕ)
step_counts =
    on "true" (ok 1)
    ∷ on "!true" (ok 2)
    ∷ on "v == 1" (ok 4)
    ∷ on "1 == v" (ok 4)
    ∷ on "d == d" (ok 3)
    ∷ on "d::value == d::mask" (ok 3)
    ∷ on "::priority < 10" (ok 3)
    ∷ on "::priority == -1" (ok 4)
    ∷ on "true && true" (ok 4)
    ∷ on "true && false" (ok 4)
    ∷ on "true && !true" (ok 5)
    ∷ on "!true && true" (ok 3)
    ∷ on "false && true" (ok 2)
    ∷ on "false; true" (ok 2)
    ∷ on "true || false" (ok 2)
    ∷ on "false || true" (ok 4)
    ∷ on "false -> true" (ok 2)
    ∷ on "true -> false" (ok 4)
    -- a chain whose first operand is false takes both skips: the first lands on the second
    ∷ on "false && true && true" (ok 3)
    ∷ on "v == 1; ::priority < 10; true" (ok 10)
    ∷ []

-- what judging says, with these steps
abbrev pub judged_steps : List ℕ → Answer Ran
judged_steps text = judged_in_steps text the_keys the_entry

abbrev pub judgements : List (OnText Ran)
judgements =
    on "v == 1" (ok (record { accepted = true; steps = 4 }))
    ∷ on "false && true" (ok (record { accepted = false; steps = 2 }))
    ∷ on "d > 3" (refused 13 in_text 2)
    ∷ []

-- how many values the code holds at most: a left operand waits for its right one
abbrev pub needs_in : List ℕ → Answer ℕ
needs_in text = restriction text the_keys >>= λ r. ok (needs r.root)

abbrev pub held_most : List (OnText ℕ)
held_most =
    on "true" (ok 1)
    ∷ on "!true" (ok 1)
    ∷ on "v == 1" (ok 2)
    ∷ on "d::mask == d::value" (ok 2)
    ∷ on "::priority < 10" (ok 2)
    ∷ on "true && false" (ok 2)
    ∷ on "(1 == 2) == true" (ok 2)
    ∷ on "true == (1 == 2)" (ok 3)
    ∷ on "(true && false) && true" (ok 2)
    ∷ on "true -> (false || !true)" (ok 3)
    ∷ []

-- the most instructions that a text has: 82 blocks
abbrev pub MostBlocks : Type 0
MostBlocks = blocks_needed most_translated ≡ 82

-- a text with every instruction, field and comparison, and its two blocks byte for byte; the check of each is computed apart, from the
-- bytes before it

abbrev pub int : ℕ → List ℕ
int n = 2 ∷ (replicate 18 0 ++ (n ∷ []))

-- on a bool, to a bool, over so many
abbrev pub skip_to : ℕ → ℕ → ℕ → List ℕ
skip_to from to over = 13 ∷ from ∷ 0 ∷ over ∷ to ∷ replicate 15 0

abbrev pub every_text : List ℕ
every_text =
    bytes "!(d == 7) || -v::value != 1 -> p::prefix_length <= 64; ::priority > 1 && r::low >= r::high && d::mask < 9 && true"

abbrev pub every_block : List ℕ
every_block =
    (0 ∷ 0 ∷ 0 ∷ 25 ∷ [])
    -- !(d == 7)
    ++ row 3 0 1
    ++ int 7
    ++ row 8 1 8
    ++ row 9 0 0
    ++ row 6 0 0
    -- the skip of "||", then -v::value != 1, and "||"
    ++ skip_to 1 1 6
    ++ row 4 0 0
    ++ row 7 0 0
    ++ int 1
    ++ row 8 0 1
    ++ row 9 1 0
    ++ row 11 0 0
    -- the skip of "->", then p::prefix_length <= 64, and "->"
    ++ skip_to 0 1 4
    ++ row 4 2 2
    ++ int 64
    ++ row 9 5 0
    ++ row 12 0 0
    -- the skip of ";", over all that follows; ::priority > 1
    ++ skip_to 0 0 18
    ++ row 5 0 0
    ++ int 1
    ++ row 9 2 0
    -- the skip of "&&", then r::low >= r::high
    ++ skip_to 0 0 4
    ++ row 4 3 3
    ++ row 4 4 3
    ++ row 9 3 0
    ++ (0 ∷ 36 ∷ 0 ∷ 5 ∷ 0x40 ∷ 0x4E ∷ 0xB7 ∷ 0xD3 ∷ [])
    -- the second block: "&&"; d::mask < 9 after its skip, and "&&"; true after its skip, and "&&"; ";"
    ++ (0 ∷ 1 ∷ 0 ∷ 11 ∷ [])
    ++ row 10 0 0
    ++ skip_to 0 0 5
    ++ row 4 1 1
    ++ int 9
    ++ row 8 0 8
    ++ row 9 4 0
    ++ row 10 0 0
    ++ skip_to 0 0 2
    ++ row 1 0 1
    ++ row 10 0 0
    ++ row 10 0 0
    ++ replicate 280 0
    ++ (0 ∷ 36 ∷ 0 ∷ 5 ∷ 0x0C ∷ 0x47 ∷ 0x5A ∷ 0x54 ∷ [])

-- "fills exactly the blocks needed, and leaves every later byte of the buffer unchanged"
pub record EveryInstruction : Type 0 where
  pub written : translate_answer every_text the_keys (replicate 1025 0xAA) ≡ ok 36
  pub block : translate_buffer every_text the_keys (replicate 1025 0xAA) ≡ every_block ++ (0xAA ∷ [])
  pub runs : run_answer the_keys every_block the_entry ≡ ok (record { accepted = false; steps = 23 })
  pub judged : judge_answer every_text the_keys the_entry ≡ ok false

-- 15: "lent buffer below the bytes needed"; buffer, its length. "A refusal changes nothing lent."
pub record Refused : Type 0 where
  pub short : translate_answer (bytes "v == 1") the_keys (replicate 511 0xAA) ≡ refused 15 in_buffer 511
  pub short_unchanged : translate_buffer (bytes "v == 1") the_keys (replicate 511 0xAA) ≡ replicate 511 0xAA
  pub one_of_two_blocks : translate_answer every_text the_keys (replicate 1023 0xAA) ≡ refused 15 in_buffer 1023
  pub untyped : translate_answer (bytes "d > 3") the_keys (replicate 512 0xAA) ≡ refused 13 in_text 2
  pub untyped_unchanged : translate_buffer (bytes "d > 3") the_keys (replicate 512 0xAA) ≡ replicate 512 0xAA

pub record TranslationExamples : Type 0 where
  pub of_nodes : AgreeOnTexts code_for leaves
  pub of_conversions : AgreeOnTexts code_for converted
  pub counted : AgreeOnTexts conversions_in counts
  pub joins_counted : AgreeOnTexts joins_in join_counts
  pub steps_counted : AgreeOnTexts steps_in step_counts
  pub judged_in_steps_lem : AgreeOnTexts judged_steps judgements
  pub held_counted : AgreeOnTexts needs_in held_most
  pub most_blocks : MostBlocks
  pub every_instruction : EveryInstruction
  pub refusals : Refused
