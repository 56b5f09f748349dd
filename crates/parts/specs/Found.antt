-- What `find` asks, and what it answers.
use Rattle.std.specs.Prelude.{ℕ, ◌+◌, ◌*◌, ◌≤◌, ◌<◌, ◌≡◌, List, length}
use Rattle.paper.specs.Answers.{ok}
use Rattle.paper.specs.Tokens.{tokens, most_tokens}
use Rattle.paper.specs.Calls.{tree}
use Rattle.paper.specs.Parts.{parts, most_parts}
use Rattle.tokens.specs.Tape as Tape
use Rattle.tokens.specs.Tape.{tape_of, tokens_on}
use Rattle.tokens.specs.Tokenized.{CutInto}
use Rattle.trees.specs.Standing.{tree_at}
use Rattle.parts.specs.Rows.{row_words, root_at, parts_on}

-- a tape has rows for so many tokens, as many as a text may have
pub record Taped (tape : List ℕ) (count : ℕ) : Type 0 where
  pub few : count ≤ most_tokens
  pub has : count * Tape.row_words ≤ length tape

-- a node of a tree that a text may have
pub record Noded (nodes : List ℕ) (root : ℕ) : Type 0 where
  pub few : root < most_tokens
  pub has : root * 8 + 8 ≤ length nodes

-- a row for each part that a text may have
abbrev pub Room : List ℕ → Type 0
Room rows = most_parts * row_words ≤ length rows

-- the tokens of a text stand on the tape, and the tree that it is read as stands at a node
pub record ReadAs (text tape : List ℕ) (count : ℕ) (nodes : List ℕ) (root : ℕ) : Type 0 where
  pub tokens : tokens text ≡ ok (tokens_on (tape_of text tape) 0 count)
  pub cut : CutInto (tape_of text tape) count
  pub tree : tree text ≡ ok (tree_at text nodes root)

-- n rows have the parts of any such text; their roots stand no higher than its root
pub record Finds (tape : List ℕ) (count : ℕ) (nodes : List ℕ) (root : ℕ) (rows : List ℕ) (n : ℕ) : Type 0 where
  pub few : n ≤ most_parts
  pub below : (k : ℕ) → k < n → root_at rows k ≤ root
  pub are : (text : List ℕ) → ReadAs text tape count nodes root → parts text ≡ ok (parts_on text nodes rows n)
