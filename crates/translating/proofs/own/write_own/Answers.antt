-- `translating::write_own` meets its contract: the node that was read (`as_read`) has the code of its arm.
use Prim.Native.Nat.{ℕ}
use mathlib.Core.List.{List}
use mathlib.Core.Path.{◌≡◌, sym, ◌∙◌, ap}
use Rattle.trees.specs.declared.node.Node.{Node}
use Rattle.trees.specs.Nodes.{node_at}
use Rattle.trees.specs.Marks.{operand_at}
use Rattle.translating.specs.Own.{own_code, own_at}
use Rattle.translating.proofs.Rows.{wrote_as}
use Rattle.translating.proofs.own.write_own.Goals as goal

as_read : (nodes : List ℕ) (at : ℕ) {m n : Node} → m ≡ node_at nodes at → m ≡ n → own_code n (operand_at nodes at) ≡ own_at nodes at
as_read nodes at read e = ap (λ (n : Node). own_code n (operand_at nodes at)) (sym e ∙ read)

pub returns-in-Before : goal.returns-in-Before
returns-in-Before c =
    wrote_as (as_read c.args.nodes.now c.args.at c.read.ensures c.in-Before.is) (c.write.ensures _ c.prefix_parts.ensures)

pub returns-in-Between : goal.returns-in-Between
returns-in-Between c =
    wrote_as (as_read c.args.nodes.now c.args.at c.read.ensures c.in-Between.is) (c.write-in-Between.ensures _ c.operator_parts.ensures)
