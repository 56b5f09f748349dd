-- `judging::compared` meets its contract: the truth that a comparison makes of its operands' values is the value of the comparison
-- (`between`), and so is told of it (`of_value`).
use mathlib.Core.Path.{refl}
use Rattle.paper.specs.Meaning.{truth, value_of}
use Rattle.keys.specs.Says.{keys_in}
use Rattle.values.specs.Held.{held}
use Rattle.operands.specs.Conforming.{entry_in}
use Rattle.trees.specs.declared.node.Operator.TheVariants.{Compares}
use Rattle.trees.specs.Standing.{operator_on, tree_at}
use Rattle.judging.proofs.Valued.{between}
use Rattle.judging.proofs.Truths.{of_value}
use Rattle.judging.proofs.truth.compared.Goals as goal

pub returns : goal.returns
returns c text left-marked right-marked at =
    let s = c.args in
    let ks = keys_in s.list.now in
    let e = entry_in s.list.now s.entry.now in
    let l = tree_at text s.nodes.now s.left in
    let r = tree_at text s.nodes.now s.right in
    let a = c.operand_value-a in
    let b = c.operand_value-b in
    let t = c.compares in
    of_value (value_of ks e (operator_on at (Compares s.c) l r)) (truth t.result) t.result
    (between ks e (Compares s.c) at l r (held a.result) (held b.result) (truth t.result) (a.ensures text left-marked) (b.ensures text right-marked)
    (rw (← c.number.ensures.meant) t.ensures))
    refl
