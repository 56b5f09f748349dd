-- Scratch for the code of a text.
use Rattle.std.specs.Prelude.{ℕ, ◌*◌}
use Rattle.paper.specs.Code.{instruction_size}

-- the bytes of a node's instructions: its own, and at most one more, a conversion at a comparison and the skip at a join
abbrev pub per_node : ℕ
per_node = 2 * instruction_size
