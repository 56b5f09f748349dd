-- Each example of a block is computed from the definitions.
use mathlib.Core.Path.{refl}
use Rattle.paper.specs.Blocks.{sums_of, layout}
use Rattle.tried.specs.BlockExamples.{InBytes, BlockExamples}

in_bytes : InBytes
in_bytes = record { two = refl; four = refl; sixteen = refl; two_back = refl; sixteen_back = refl }

pub block_examples : BlockExamples
unfolding sums_of layout
block_examples = record { numbers = in_bytes; sums = refl; as_many_as_needed = refl; one_block_lem = refl; fewer_keys_than_listed = refl; two_blocks_lem = refl }
