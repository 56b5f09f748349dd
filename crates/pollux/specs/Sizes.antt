-- The size of a file that is written.
use Rattle.std.specs.Prelude.{ℕ, ◌*◌, cond, List, take, leb}
use Rattle.paper.specs.Blocks.{block_size, most_blocks}

-- the first blocks of a buffer; all of it for more than there may be
abbrev pub first_blocks : ℕ → List ℕ → List ℕ
first_blocks blocks buffer = cond (leb blocks most_blocks) (take (blocks * block_size) buffer) buffer
