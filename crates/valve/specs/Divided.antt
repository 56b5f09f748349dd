-- A text that passed with a list, its parts in rows, and blocks beside them.
use Rattle.std.specs.Prelude.{ℕ, ◌-◌, Bool, List}
use Rattle.paper.specs.Comparing.{records_from, fits, part_codes}
use Rattle.keys.specs.Says.{keys_in}
use Rattle.parts.specs.Rows.{parts_on}

-- whether the first instructions of blocks are the parts of n rows in some order
abbrev pub fits_parts : List ℕ → List ℕ → List ℕ → List ℕ → ℕ → List ℕ → ℕ → Bool
fits_parts text list nodes rows n blocks count = fits (n - 1) (part_codes (keys_in list) (parts_on text nodes rows n)) (records_from blocks 0 count)
