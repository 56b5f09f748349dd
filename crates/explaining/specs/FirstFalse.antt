-- The first of the parts in some rows that is false on an entry.
use Rattle.std.specs.Prelude.{ℕ, ◌<◌, ◌≡◌, List, Option, Some, None}
use Rattle.std.proofs.Math.Option as maybe
use Rattle.paper.specs.Parts.{Part}
use Rattle.paper.specs.Explained.{holds_on, first_false}
use Rattle.keys.specs.Says.{keys_in}
use Rattle.operands.specs.Conforming.{entry_in}
use Rattle.parts.specs.Rows.{part_at, parts_on}

-- of the first n rows
abbrev pub first_in : List ℕ → List ℕ → List ℕ → List ℕ → List ℕ → ℕ → maybe.Option Part
first_in text list entry nodes rows n = first_false (holds_on (keys_in list) (entry_in list entry)) (parts_on text nodes rows n)

-- it is the part of row k
pub record Is (text list entry nodes rows : List ℕ) (n k : ℕ) : Type 0 where
  pub inside : k < n
  pub first : first_in text list entry nodes rows n ≡ maybe.some (part_at text nodes rows k)

abbrev pub Finds : List ℕ → List ℕ → List ℕ → List ℕ → List ℕ → ℕ → Option ℕ → Type 0
Finds text list entry nodes rows n (Some k) = Is text list entry nodes rows n k
Finds text list entry nodes rows n None = first_in text list entry nodes rows n ≡ maybe.none
