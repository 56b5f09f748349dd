-- How the parts of a text stand in a slice of numbers: a row of three words for each part, in the order of the parts, which are its first
-- byte, the byte past its last, and the node of its root.
use Rattle.std.specs.Prelude.{ℕ, zero, suc, ◌+◌, ◌*◌, ◌≤◌, List, [], ◌∷◌, length, get_or}
use Rattle.paper.specs.Parts.{Stretch, Part}
use Rattle.trees.specs.Standing.{tree_at}

-- rows

abbrev pub row_words : ℕ
row_words = 3

-- where the row of a part begins, by its index from 0
abbrev pub row_at : ℕ → ℕ
row_at k = k * row_words

-- the slice has that row
abbrev pub Has : List ℕ → ℕ → Type 0
Has rows k = row_at k + row_words ≤ length rows

abbrev pub stretch_at : List ℕ → ℕ → Stretch
stretch_at rows k = record { from = get_or rows (row_at k) 0; to = get_or rows (row_at k + 1) 0 }

abbrev pub root_at : List ℕ → ℕ → ℕ
root_at rows k = get_or rows (row_at k + 2) 0

-- parts

-- the part of a row, over its text and the nodes of the text's tree
abbrev pub part_at : List ℕ → List ℕ → List ℕ → ℕ → Part
part_at text nodes rows k = record { number = suc k; root = tree_at text nodes (root_at rows k); stretch = stretch_at rows k }

-- what n rows have, from the one of index k on
unfoldable pub each : {A : Type 0} → (ℕ → A) → ℕ → ℕ → List A
each has k zero = []
each has k (suc n) = has k ∷ each has (suc k) n

-- of the first n rows

abbrev pub stretches_on : List ℕ → ℕ → List Stretch
stretches_on rows n = each (stretch_at rows) 0 n

abbrev pub roots_on : List ℕ → ℕ → List ℕ
roots_on rows n = each (root_at rows) 0 n

abbrev pub parts_on : List ℕ → List ℕ → List ℕ → ℕ → List Part
parts_on text nodes rows n = each (part_at text nodes rows) 0 n
