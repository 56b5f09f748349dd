use native.Mathlib.Omega.{arith}
use mathlib.Core.Path.{◌∙◌, sym}
use lib.Seq.{length-take-le}
use Rattle.blocks.proofs.Layouts.{check_stored}
use Rattle.blocks.proofs.sums.seal.Goals as goal

pub slice_bounds-sums_of-end-2 : goal.slice_bounds-sums_of-end-2
slice_bounds-sums_of-end-2 c = let b = c.args.block.now in sym (length-take-le 508 b (omega arith))

pub returns : goal.returns
returns c =
    let sums = c.sums_of in
    check_stored c.args.block.now _ sums.result c.requires sums.ensures.0 (c.copy_from_slice.ensures.after ∙ c.bytes-check.ensures)
