-- `blocks::writing::write_blocks` meets its contract. The invariant of its loop: the first k blocks stand over what was lent, and every later
-- byte is as it was. A turn puts block k after them (`row_on`).
use Prim.Native.Nat.{ℕ, ◌*◌, ◌/◌}
use mathlib.Core.Path.{◌≡◌}
use mathlib.Core.List.{List, ◌++◌}
use lib.ListN.{length, drop}
use Rattle.blocks.specs.Written.{block_at, in_row}
use Rattle.blocks.proofs.writing.write_blocks.Given as goal

-- block k of the code, by its number
abbrev pub block : List ℕ → ℕ → ℕ → List ℕ
block code keys = block_at (length code / 20) keys code

abbrev pub invariant-loop-k : goal.invariant-loop-k
invariant-loop-k l =
    (l.buffer ≡ in_row (block l.code l.keys) 0 l.k ++ drop (l.k * 512) l.initial.buffer)
