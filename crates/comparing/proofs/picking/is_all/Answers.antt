-- `comparing::is_all` meets its contract: what is left has as many instructions as the part's own code, and they are its records (`of_size`); where
-- it has another number it is not (`other_size`).
use mathlib.Core.Path.{◌∙◌}
use Rattle.comparing.proofs.Matched.{other_size, of_size}
use Rattle.comparing.proofs.picking.is_all.Goals as goal

pub returns-then-left-to : goal.returns-then-left-to
returns-then-left-to c d stood =
    let a = c.args in
    other_size a.code.now a.starts.now a.k d stood a.blocks.now a.left _ _ c.start_at-from.ensures c.start_at-to.ensures c.if-left-to.true

pub returns : goal.returns
returns c d stood =
    let a = c.args in
    c.same_records.ensures
    ∙ of_size a.code.now a.starts.now a.k d stood a.blocks.now a.left _ _ c.start_at-from.ensures c.start_at-to.ensures c.if-left-to.false
