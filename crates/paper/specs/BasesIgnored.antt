-- 02 e: "Tokens, tree and print carry it; judging, typing and blocks ignore it." So the tree without its bases decides, and two texts that
-- differ only in the bases of numerals get the same judgement, types and blocks, byte for byte.
use Rattle.std.specs.Prelude.{ℕ, ◌≤◌, ◌≡◌, List, length}
use Rattle.paper.specs.Answers.{Input, in_text, in_list, in_entry, in_blocks, in_buffer, in_contract, in_table, Answer, ok, refused}
use Rattle.paper.specs.Tokens.{plain, most_text}
use Rattle.paper.specs.Keys.{Key}
use Rattle.paper.specs.Entry.{Entry}
use Rattle.paper.specs.Grammar.{Tree, truth, number, key, field, attribute, prefixed, joined, compared}
use Rattle.paper.specs.Types.{type_of}
use Rattle.paper.specs.Meaning.{value_of}
use Rattle.paper.specs.Translating.{code_of}
use Rattle.paper.specs.Print.{bare}
use Rattle.paper.specs.Calls.{tree, check_answer, judge_answer, translate_answer, translate_buffer}

-- every numeral in decimal
abbrev pub without_bases : Tree → Tree
without_bases (truth at b) = truth at b
without_bases (number at n) = number at (plain n.value)
without_bases (key at w) = key at w
without_bases (field at w to f) = field at w to f
without_bases (attribute at to f) = attribute at to f
without_bases (prefixed at o t) = prefixed at o (without_bases t)
without_bases (joined at o l r) = joined at o (without_bases l) (without_bases r)
without_bases (compared at c l r) = compared at c (without_bases l) (without_bases r)

-- two texts that are read, and whose trees are the same in some sense
pub record SameTrees (sense : Tree → Tree) (v w : List ℕ) : Type 0 where
  pub short : (length v ≤ most_text) × (length w ≤ most_text)
  pub first : Tree
  pub second : Tree
  pub reads : (tree v ≡ ok first) × (tree w ≡ ok second)
  pub same : sense first ≡ sense second

-- an answer, with the place of a refusal in the text seen through p

abbrev pub place_in : (ℕ → ℕ) → Input → ℕ → ℕ
place_in p in_text at = p at
place_in p in_list at = at
place_in p in_entry at = at
place_in p in_blocks at = at
place_in p in_buffer at = at
place_in p in_contract at = at
place_in p in_table at = at

abbrev pub placed : {A : Type 0} → (ℕ → ℕ) → Answer A → Answer A
placed p (ok a) = ok a
placed p (refused n i at) = refused n i (place_in p i at)

-- what the calls answer for two texts is the same, seen so; and so is every byte of the buffer
pub record AnsweredAlike (p : ℕ → ℕ) (v w : List ℕ) : Type 0 where
  pub checked : (list : List ℕ) → placed p (check_answer v list) ≡ placed p (check_answer w list)
  pub judged : (list entry : List ℕ) → placed p (judge_answer v list entry) ≡ placed p (judge_answer w list entry)
  pub translated : (list buffer : List ℕ) → placed p (translate_answer v list buffer) ≡ placed p (translate_answer w list buffer)
  pub blocks : (list buffer : List ℕ) → translate_buffer v list buffer ≡ translate_buffer w list buffer

pub record BasesIgnored : Type 0 where
  -- the tree without bases decides
  pub types : (ks : List Key) (t : Tree) → type_of ks (without_bases t) ≡ type_of ks t
  pub values : (ks : List Key) (e : Entry) (t : Tree) → value_of ks e (without_bases t) ≡ value_of ks e t
  pub code : (ks : List Key) (t : Tree) → code_of ks (without_bases t) ≡ code_of ks t
  -- of texts in which everything stands at the same places every answer is the same
  pub in_place : (v w : List ℕ) → SameTrees without_bases v w → AnsweredAlike (λ at. at) v w
  -- of any others all but the place of a refusal in the text
  pub places_aside : (v w : List ℕ) → SameTrees (λ t. bare (without_bases t)) v w → AnsweredAlike (λ at. 0) v w
