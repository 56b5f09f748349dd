-- The counts from block k on add up to the count of block k and those after it (`counts_on`).
use native.Mathlib.Omega.{arith}
use borrow.Author.Rules.{rules}
use Rattle.blocks.proofs.Layouts.{counts_on}
use Rattle.blocks.proofs.laying.total_of.Goals as goal

pub loop-k-preserved : goal.loop-k-preserved
loop-k-preserved c =
    let l = c.loop-k in
    let a = c.args in
    let e = counts_on a.blocks.now l.k a.n (search rules) in
    (omega (arith, c.two_bytes-sum.ensures.1), omega (arith, e, l.invariant.1, c.two_bytes-sum.ensures.0))
