-- The first free part from k on is the first of all.
use mathlib.Core.Path.{sym, ap, ◌∙◌}
use mathlib.Core.Bool.{not}
use Rattle.comparing.specs.Picking.{is_free}
use Rattle.comparing.proofs.Picked.{goes_on}
use Rattle.comparing.proofs.picking.first_free.Goals as goal

pub loop-k-preserved : goal.loop-k-preserved
loop-k-preserved c =
    let a = c.args in
    sym (goes_on (is_free a.used.now) a.n c.loop-k.k c.loop-k-test.true (ap not c.if-not-used-k.false)) ∙ c.loop-k.invariant
