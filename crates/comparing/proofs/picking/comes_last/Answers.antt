-- `comparing::comes_last` meets its contract: a part that is used does not (`not_free`), nor one that is longer than what is left (`is_short`); else
-- its records are compared with as many at the end (`by_records`).
use mathlib.Core.Path.{ap, ◌∙◌}
use mathlib.Core.Bool.{not}
use Rattle.comparing.proofs.Matched.{is_short, by_records}
use Rattle.comparing.proofs.picking.comes_last.Goals as goal

pub returns-then-left-size : goal.returns-then-left-size
returns-then-left-size c d stood =
    let a = c.args in
    is_short a.code.now a.starts.now a.used.now a.k d stood a.blocks.now a.left _ _ c.start_at-from.ensures c.start_at.ensures
    (ap not c.if-used-k.false) c.if-left-size.true

pub returns : goal.returns
returns c d stood =
    let a = c.args in
    c.same_records.ensures
    ∙ by_records a.code.now a.starts.now a.used.now a.k d stood a.blocks.now a.left _ _ c.start_at-from.ensures c.start_at.ensures
    (ap not c.if-used-k.false) c.if-left-size.false
