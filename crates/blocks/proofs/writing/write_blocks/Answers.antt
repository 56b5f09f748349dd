-- `blocks::writing::write_blocks` meets its contract. The invariant of its loop: the first k blocks stand over what was lent, and every later
-- byte is as it was. A turn puts block k after them (`row_on`).
use Prim.Native.Nat.{◌/◌}
use native.Mathlib.Omega.{arith}
use mathlib.Core.Path.{◌∙◌}
use lib.ListN.{length}
use Rattle.blocks.proofs.Rows.{block_length, row_on}
use Rattle.blocks.proofs.writing.write_blocks.Invariants.{block}
use Rattle.blocks.proofs.writing.write_blocks.Goals as goal

pub loop-k-preserved : goal.loop-k-preserved
loop-k-preserved c =
    let a = c.args in
    let l = c.loop-k in
    let size = block_length (length a.code.now / 20) a.keys a.code.now in
    c.put_block.ensures
    ∙ row_on (block a.code.now a.keys) size a.buffer.now l.k l.buffer (omega (arith, c.needed-n.ensures)) l.invariant
