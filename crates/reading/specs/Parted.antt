-- What `restrict_parts` answers, read with the nodes and the rows as it leaves them.
use Rattle.std.specs.Prelude.{ℕ, ◌+◌, ◌*◌, ◌≤◌, ◌<◌, ◌≡◌, List, length, Result, Ok, Err}
use Rattle.paper.specs.declared.Refusal.{Refusal}
use Rattle.paper.specs.Answers.{ok, refused_by}
use Rattle.paper.specs.Types.{typed}
use Rattle.paper.specs.Calls.{restriction}
use Rattle.paper.specs.Parts.{parts, most_parts}
use Rattle.keys.specs.Says.{keys_in}
use Rattle.trees.specs.Standing.{tree_at}
use Rattle.trees.specs.Marks.{Marked}
use Rattle.parts.specs.Rows.{Has, root_at, parts_on}
use Rattle.reading.specs.declared.grown.Grown.{Grown}
use Rattle.tokens.specs.declared.Stop.{Stop}
use Rattle.reading.specs.Grown.{RowRoom}
use Rattle.reading.specs.Restricted.{Rooted}

-- the tree at a node can be judged: it has the right types by the list's keys, and the marks of its names
pub record Judgeable (text list nodes : List ℕ) (i : ℕ) : Type 0 where
  pub has : i * 8 + 8 ≤ length nodes
  pub checked : typed (keys_in list) (tree_at text nodes i) ≡ ok tt
  pub marked : Marked (keys_in list) text nodes (i + 1)

-- n rows have the parts of a text, and each of these can be judged
pub record Parted (text list nodes rows : List ℕ) (n : ℕ) : Type 0 where
  pub some : 1 ≤ n
  pub few : n ≤ most_parts
  pub are : parts text ≡ ok (parts_on text nodes rows n)
  pub has : (k : ℕ) → k < n → Has rows k
  pub each : (k : ℕ) → k < n → Judgeable text list nodes (root_at rows k)

-- where rows were lent for them
abbrev pub Readies : List ℕ → List ℕ → List ℕ → List ℕ → Result Grown Stop → Type 0
Readies text list nodes rows (Ok g) = RowRoom rows → Parted text list nodes rows g.parts
Readies text list nodes rows (Err s) = Unit {0}

-- text and list pass too
pub record PassedParts (text list nodes rows : List ℕ) (n : ℕ) : Type 0 where
  pub root : ℕ
  pub rooted : Rooted text list nodes root
  pub parted : Parted text list nodes rows n

abbrev pub RestrictsParts : List ℕ → List ℕ → List ℕ → List ℕ → Result ℕ Refusal → Type 0
RestrictsParts text list nodes rows (Ok n) = PassedParts text list nodes rows n
RestrictsParts text list nodes rows (Err v) = restriction text list ≡ refused_by v
