-- What translating, loading and running promise together: the blocks of a text say of every entry what the text says.
use Rattle.std.specs.Prelude.{ℕ, ◌*◌, ◌≤◌, ◌≡◌, Bool, List, length, take, drop}
use Rattle.paper.specs.Answers.{Input, Answer, ok, refused, ◌>>=◌, Ran}
use Rattle.paper.specs.Keys.{Key, keys}
use Rattle.paper.specs.Entry.{Entry, entry_of}
use Rattle.paper.specs.Meaning.{is_true, value_of}
use Rattle.paper.specs.Blocks.{block_size, blocks_needed}
use Rattle.paper.specs.Translating.{steps_of}
use Rattle.paper.specs.Calls.{restriction, check_answer, judge_answer, translate_answer, translate_buffer, load_answer, run_answer}
use Rattle.paper.specs.LoadedBlocksRun.{Runs}
use Rattle.paper.specs.CodeCorrect.{most_translated}

-- what judging a text says, with the steps counted over its tree
unfoldable pub judged_in_steps : List ℕ → List ℕ → List ℕ → Answer Ran
unfolding restriction entry_of value_of steps_of
judged_in_steps text list entry =
    restriction text list
    >>= λ r. entry_of r.keys entry
    >>= λ e. ok (record { accepted = is_true (value_of r.keys e r.root); steps = steps_of r.keys e r.root })

-- the verdict of a run
abbrev pub verdict_of : Answer Ran → Answer Bool
verdict_of a = a >>= λ r. ok r.accepted

-- the same verdict or the same refusal, for every entry, in the steps that the tree takes
pub record Carries (text list blocks : List ℕ) (n : ℕ) : Type 0 where
  pub loads : load_answer list blocks ≡ ok n
  pub runs : (entry : List ℕ) → run_answer list blocks entry ≡ judged_in_steps text list entry
  pub judges : (entry : List ℕ) → verdict_of (run_answer list blocks entry) ≡ judge_answer text list entry

-- "fills exactly the blocks needed, and leaves every later byte of the buffer unchanged"
pub record Filled (text list buffer : List ℕ) (n : ℕ) : Type 0 where
  pub few : n ≤ most_translated
  pub room : block_size * blocks_needed n ≤ length buffer
  pub carries : Carries text list (take (block_size * blocks_needed n) (translate_buffer text list buffer)) n
  pub later : drop (block_size * blocks_needed n) (translate_buffer text list buffer) ≡ drop (block_size * blocks_needed n) buffer
  pub size : length (translate_buffer text list buffer) ≡ length buffer

abbrev pub TranslationCarries : Type 0
TranslationCarries = (text list buffer : List ℕ) (n : ℕ) → translate_answer text list buffer ≡ ok n → Filled text list buffer n

-- a text that passes can be translated: 82 blocks are room enough for any
abbrev pub CheckedTranslates : Type 0
CheckedTranslates =
    (text list : List ℕ) → check_answer text list ≡ ok tt → (buffer : List ℕ) → blocks_needed most_translated * block_size ≤ length buffer
    → (n : ℕ) × (translate_answer text list buffer ≡ ok n)

-- "A refusal changes nothing lent."
abbrev pub RefusedUnchanged : Type 0
RefusedUnchanged =
    (text list buffer : List ℕ) (m : ℕ) (i : Input) (at : ℕ) → translate_answer text list buffer ≡ refused m i at
    → translate_buffer text list buffer ≡ buffer

-- "The entry is accepted exactly when the bool left at the end is true, else violated; this holds for all blocks that load"
pub record Answered (list blocks entry : List ℕ) (ks : List Key) (e : Entry) (n : ℕ) : Type 0 where
  pub run : Runs ks e blocks n
  pub answer : run_answer list blocks entry ≡ ok (record { accepted = run.bit; steps = length run.path })

abbrev pub LoadedAnswers : Type 0
LoadedAnswers =
    (list blocks entry : List ℕ) (ks : List Key) (e : Entry) (n : ℕ) → load_answer list blocks ≡ ok n → keys list ≡ ok ks → entry_of ks entry ≡ ok e
    → Answered list blocks entry ks e n
