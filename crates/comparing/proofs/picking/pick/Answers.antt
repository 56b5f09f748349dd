-- `comparing::pick` meets its contract. The invariant of its loop: the first part from k on that comes last is the first of all.
use native.Mathlib.Omega.{arith}
use mathlib.Core.Path.{sym, ◌∙◌}
use Rattle.paper.specs.Comparing.{records_from}
use Rattle.comparing.specs.Picking.{comes_last}
use Rattle.comparing.proofs.Picked.{stops, goes_on}
use Rattle.comparing.proofs.picking.pick.Goals as goal

pub comes_last-requires : goal.comes_last-requires
comes_last-requires c =
    let k = c.loop-k.k in
    record { left_bound = (omega arith, omega arith, omega arith); stood = (c.requires.by_index.0 k, c.requires.by_index.1 k c.loop-k-test.true) }

pub returns-then-comes_last : goal.returns-then-comes_last
returns-then-comes_last c cs stand =
    let l = c.loop-k in
    let more = c.loop-k-test.true in
    let test = comes_last c.args.used.now cs (records_from c.args.blocks.now 0 c.args.left) in
    let told = sym (c.comes_last.ensures (cs l.k) (stand l.k more)) ∙ c.if-comes_last.true in
    (sym (l.invariant cs stand) ∙ stops test c.args.n l.k more told, more)

pub loop-k-preserved : goal.loop-k-preserved
loop-k-preserved c cs stand =
    let l = c.loop-k in
    let more = c.loop-k-test.true in
    let test = comes_last c.args.used.now cs (records_from c.args.blocks.now 0 c.args.left) in
    let told = sym (c.comes_last.ensures (cs l.k) (stand l.k more)) ∙ c.if-comes_last.false in
    sym (goes_on test c.args.n l.k more told) ∙ l.invariant cs stand
