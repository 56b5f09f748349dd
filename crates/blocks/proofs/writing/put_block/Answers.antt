-- `blocks::writing::put_block` meets its contract: the block is written in its own part of the buffer, and the part comes back at its place
-- (`put_back`).
use Prim.Native.Nat.{ℕ, ◌+◌, ◌*◌, ◌-◌}
use native.Mathlib.Omega.{arith}
use mathlib.Core.Path.{◌≡◌, ◌∙◌, ap, ap₂}
use mathlib.Core.List.{List, ◌++◌}
use lib.ListN.{length, take, drop, length-take}
use borrow.Rule.Slice.PartMut.{mid_len}
use Rattle.blocks.specs.Written.{coded_block, block_at}
use Rattle.blocks.proofs.Stores.{put_back}
use Rattle.blocks.proofs.Rows.{block_length}
use Rattle.blocks.proofs.writing.put_block.Goals as goal

pub write_block-requires : goal.write_block-requires
write_block-requires c =
    let a = c.args in
    let few = ap length c.code_of.ensures ∙ length-take 500 (drop (a.k * 500) a.code.now) in
    (mid_len (a.k * 512) (a.k * 512 + 512) a.buffer.now (omega arith) ∙ omega arith, omega (arith, few))

pub returns : goal.returns
returns c =
    let a = c.args in
    let at = a.k * 512 in
    let old = a.buffer.now in
    let size : at + 512 - at ≡ 512 = omega arith in
    let block = block_at a.total a.keys a.code.now a.k in
    let written = c.write_block.ensures ∙ ap (coded_block a.total a.keys a.k) c.code_of.ensures in
    ap₂ (λ (b : List ℕ) (n : ℕ). take at old ++ (b ++ drop n (drop at old))) written size
    ∙ put_back old at 512 block (block_length a.total a.keys a.code.now a.k) (omega arith)
