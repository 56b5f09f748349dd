use native.Mathlib.Omega.{arith}
use mathlib.Core.Path.{◌∙◌, sym}
use lib.Seq.{length-take-le}
use Rattle.blocks.proofs.Layouts.{check_compared}
use Rattle.blocks.proofs.laying.check_right.Goals as goal

pub slice_bounds-sums_of-end : goal.slice_bounds-sums_of-end
slice_bounds-sums_of-end c = let b = c.args.block.now in sym (length-take-le 508 b (omega arith))

pub returns : goal.returns
returns c =
    let sums = c.sums_of in
    c.eq.ensures ∙ check_compared c.args.block.now _ sums.result c.requires sums.ensures.0 c.bytes-check.ensures
