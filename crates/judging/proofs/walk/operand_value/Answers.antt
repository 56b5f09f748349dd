-- `judging::operand_value` meets its contract: of a leaf, its value by its marks (`leaf_at_lem`), and of any other node what the walk gives.
use mathlib.Core.Path.{sym, ◌∙◌}
use Rattle.keys.specs.Says.{keys_in}
use Rattle.values.specs.Held.{held}
use Rattle.operands.specs.Conforming.{entry_in}
use Rattle.judging.proofs.Valued.{leaf_at_lem}
use Rattle.judging.proofs.walk.operand_value.Goals as goal

pub returns : goal.returns
returns c text marked =
    let a = c.args in
    leaf_at_lem (keys_in a.list.now) (entry_in a.list.now a.entry.now) text a.nodes.now a.i (sym c.in-Without.is ∙ c.read-n.ensures) marked
    (held c.leaf_value.result) c.leaf_value.ensures
