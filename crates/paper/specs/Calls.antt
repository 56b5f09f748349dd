-- What each public call answers for any bytes, and what the buffer holds after `translate` and `print`.
-- 01, "Stages run in the order below, those that a call has": 1; 2; 3 and 4; 5 to 7; 8 to 10; 11 to 13; 14; 15; 16; 17; 18; 19; 20.
-- 22 (02 h) is with 5 to 7, and 23 (02 j) with 11 to 13.
use Rattle.std.specs.Prelude.{ℕ, ◌*◌, Bool, ◌&&◌, List, ◌++◌, length, drop, leb}
use Rattle.paper.specs.Answers.{Answer, ok, refused, ◌>>=◌, require, Ran, in_text, in_buffer}
use Rattle.paper.specs.Tokens.{tokens, most_text}
use Rattle.paper.specs.Keys.{Key, keys}
use Rattle.paper.specs.Entry.{entry_of}
use Rattle.paper.specs.Grammar.{Tree, nodes, parsed}
use Rattle.paper.specs.Types.{typed}
use Rattle.paper.specs.Meaning.{value_of, is_true}
use Rattle.paper.specs.Blocks.{block_size, blocks_needed, blocks_of}
use Rattle.paper.specs.Loading.{program, loaded, Run, run_along, left_true, steps_taken}
use Rattle.paper.specs.Translating.{code_of}
use Rattle.paper.specs.Print.{print}

-- 1: "text over 4,096 bytes", text 4096
abbrev pub sized : List ℕ → Answer (Unit {0})
sized text = require (leb (length text) most_text) 1 in_text most_text

-- 5 to 7 and 22; 8 to 10
unfoldable pub tree : List ℕ → Answer Tree
unfolding tokens parsed
tree text = tokens text >>= parsed (length text)

-- a text and a list that pass
pub record Restriction : Type 0 where
  pub keys : List Key
  pub root : Tree

-- 1; 2; 3 and 4; 5 to 10 and 22; 11 to 14 and 23
unfoldable pub restriction : List ℕ → List ℕ → Answer Restriction
unfolding keys tree typed
restriction text list =
    sized text
    >>= λ _. keys list
    >>= λ ks. tree text
    >>= λ t. typed ks t
    >>= λ _. ok (record { keys = ks; root = t })

-- 1; 5 to 10. What is answered is our choice: the number of nodes of the tree
unfoldable pub read_answer : List ℕ → Answer ℕ
unfolding tree
read_answer text = sized text >>= λ _. tree text >>= λ t. ok (nodes t)

unfoldable pub check_answer : List ℕ → List ℕ → Answer (Unit {0})
unfolding restriction
check_answer text list = restriction text list >>= λ _. ok tt

unfoldable pub judge_answer : List ℕ → List ℕ → List ℕ → Answer Bool
unfolding restriction entry_of value_of
judge_answer text list entry =
    restriction text list
    >>= λ r. entry_of r.keys entry
    >>= λ e. ok (is_true (value_of r.keys e r.root))

-- 15: "lent buffer below the bytes needed", at its length
abbrev pub room_for : List ℕ → Restriction → Answer Restriction
room_for buffer r =
    require (leb (block_size * blocks_needed (length (code_of r.keys r.root))) (length buffer)) 15 in_buffer (length buffer)
    >>= λ _. ok r

-- a text and a list that pass, and whose blocks the buffer has room for
unfoldable pub translatable : List ℕ → List ℕ → List ℕ → Answer Restriction
unfolding restriction code_of
translatable text list buffer = restriction text list >>= room_for buffer

-- "Translation returns the number of instructions"
unfoldable pub translate_answer : List ℕ → List ℕ → List ℕ → Answer ℕ
unfolding translatable code_of
translate_answer text list buffer = translatable text list buffer >>= λ r. ok (length (code_of r.keys r.root))

-- "fills exactly the blocks needed, and leaves every later byte of the buffer unchanged"
abbrev pub over : List ℕ → List ℕ → List ℕ
over new old = new ++ drop (length new) old

-- "A refusal changes nothing lent."
abbrev pub filled : Answer Restriction → List ℕ → List ℕ
filled (ok r) buffer = over (blocks_of (length r.keys) (code_of r.keys r.root)) buffer
filled (refused n i at) buffer = buffer

unfoldable pub translate_buffer : List ℕ → List ℕ → List ℕ → List ℕ
unfolding translatable blocks_of code_of
translate_buffer text list buffer = filled (translatable text list buffer) buffer

unfoldable pub load_answer : List ℕ → List ℕ → Answer ℕ
unfolding keys loaded
load_answer list blocks = keys list >>= λ ks. loaded ks blocks

-- what a run comes to
abbrev pub ran_to : Run → Ran
ran_to r = record { accepted = left_true r; steps = steps_taken r }

unfoldable pub run_answer : List ℕ → List ℕ → List ℕ → Answer Ran
unfolding keys loaded entry_of run_along
run_answer list blocks entry =
    keys list
    >>= λ ks. loaded ks blocks
    >>= λ _. entry_of ks entry
    >>= λ e. ok (ran_to (run_along ks e (program blocks)))

-- 02 a: "A print over 4,096 bytes, or over the lent buffer, is refused with number 21, placed in the buffer at its length here and
-- in every later request."
abbrev pub lends : List ℕ → List ℕ → Answer (List ℕ)
lends new buffer =
    require (leb (length new) most_text && leb (length new) (length buffer)) 21 in_buffer (length buffer)
    >>= λ _. ok new

-- 1; 5 to 10; 21: the print of a text that passes, where it may be lent
unfoldable pub printable : List ℕ → List ℕ → Answer (List ℕ)
unfolding tree print
printable text buffer = sized text >>= λ _. tree text >>= λ t. lends (print t) buffer

-- what is answered is our choice: the length of the print
unfoldable pub print_answer : List ℕ → List ℕ → Answer ℕ
unfolding printable
print_answer text buffer = printable text buffer >>= λ s. ok (length s)

-- "Bytes after a print, or after a text that a later request writes, stay."
abbrev pub laid : Answer (List ℕ) → List ℕ → List ℕ
laid (ok s) buffer = over s buffer
laid (refused n i at) buffer = buffer

unfoldable pub print_buffer : List ℕ → List ℕ → List ℕ
unfolding printable
print_buffer text buffer = laid (printable text buffer) buffer
