-- The code of a block is the part of all code that it holds; the last one may be shorter (`part_up_to`).
use Prim.Native.Nat.{◌*◌}
use Rattle.blocks.proofs.Stores.{part_up_to}
use Rattle.blocks.proofs.writing.code_of.Goals as goal

pub returns : goal.returns
returns c =
    let a = c.args in
    part_up_to a.code.now (a.k * 500) 500 _ c.min.ensures
