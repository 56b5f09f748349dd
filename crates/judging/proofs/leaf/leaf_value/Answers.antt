-- `judging::leaf_value` meets its contract: the operand that was read (`as_read`) has the value of its arm; an attribute that has one is
-- the priority (`is_when`).
use native.Mathlib.Omega.{arith}
use mathlib.Core.Path.{◌≡◌, sym, ◌∙◌, subst}
use Rattle.paper.specs.Meaning.{Value}
use Rattle.number.specs.Values.{value}
use Rattle.keys.specs.Says.{keys_in}
use Rattle.values.specs.declared.cell.Cell.{Cell}
use Rattle.values.specs.Held.{held, Is}
use Rattle.operands.specs.Conforming.{entry_in}
use Rattle.operands.proofs.Conforming.{entry_size}
use Rattle.trees.specs.declared.marks.Operand.{Operand}
use Rattle.trees.specs.Marks.{operand_at}
use Rattle.judging.specs.Values.{operand_value}
use Rattle.judging.proofs.leaf.leaf_value.Goals as goal

pub priority_cell-requires : goal.priority_cell-requires
priority_cell-requires c = omega (arith, entry_size c.args.list.now c.args.entry.now c.requires.1)

-- a value is right of an operand
abbrev Right : goal.After-whole → Operand → Value → Type 0
Right c o v =
    let a = c.args in
    Is (operand_value (keys_in a.list.now) (entry_in a.list.now a.entry.now) o) v

as_read : (c : goal.After-whole) {o : Operand} → c.read-operand.result ≡ o → (r : Cell) → Right c o (held r) → Right c (operand_at c.args.nodes.now c.args.i) (held r)
as_read c e r h = subst (λ (o : Operand). Right c o (held r)) (sym e ∙ c.read-operand.ensures) h

pub returns-in-Number : goal.returns-in-Number
unfolding value
returns-in-Number c = as_read c c.in-Number.is c.whole.result c.whole.ensures
