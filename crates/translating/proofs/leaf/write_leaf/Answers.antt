-- `translating::write_leaf` meets its contract: the operand that was read (`as_read`) has the code of its arm.
use Prim.Native.Nat.{ℕ}
use mathlib.Core.List.{List}
use mathlib.Core.Path.{◌≡◌, sym, ◌∙◌, ap, subst}
use Rattle.paper.specs.Code.{push_field, field_of}
use Rattle.number.specs.Values.{value}
use Rattle.trees.specs.declared.marks.Operand.{Operand}
use Rattle.trees.specs.Marks.{operand_at}
use Rattle.trees.proofs.Marking.{AField, a_field}
use Rattle.translating.specs.Own.{operand_code}
use Rattle.translating.proofs.Fields.{field_number}
use Rattle.translating.proofs.Rows.{wrote_as}
use Rattle.translating.proofs.leaf.write_leaf.Goals as goal

is_operand : (nodes : List ℕ) (at : ℕ) {m o : Operand} → m ≡ operand_at nodes at → m ≡ o → o ≡ operand_at nodes at
is_operand nodes at read e = sym e ∙ read

as_read : (nodes : List ℕ) (at : ℕ) {m o : Operand} → m ≡ operand_at nodes at → m ≡ o → operand_code o ≡ operand_code (operand_at nodes at)
as_read nodes at read e = ap operand_code (is_operand nodes at read e)

pub returns-in-Truth : goal.returns-in-Truth
returns-in-Truth c =
    wrote_as (as_read c.args.nodes.now c.args.at c.read.ensures c.in-Truth.is) (c.write.ensures _ c.push_bool.ensures)

pub returns-in-Number : goal.returns-in-Number
unfolding value
returns-in-Number c =
    wrote_as (as_read c.args.nodes.now c.args.at c.read.ensures c.in-Number.is) (c.write-in-Number.ensures _ c.push_int.ensures)

pub returns-in-Key : goal.returns-in-Key
returns-in-Key c =
    wrote_as (as_read c.args.nodes.now c.args.at c.read.ensures c.in-Key.is) (c.write-in-Key.ensures _ c.plain.ensures)

pub returns-in-Field : goal.returns-in-Field
returns-in-Field c =
    let few = subst AField (sym (is_operand c.args.nodes.now c.args.at c.read.ensures c.in-Field.is)) (a_field c.args.nodes.now c.args.at) in
    wrote_as (as_read c.args.nodes.now c.args.at c.read.ensures c.in-Field.is)
    (c.write-in-Field.ensures (push_field (field_of c.in-Field.f) c.in-Field.k) (rw (field_number c.in-Field.f few) c.plain-in-Field.ensures))

pub returns-in-Attribute : goal.returns-in-Attribute
returns-in-Attribute c =
    wrote_as (as_read c.args.nodes.now c.args.at c.read.ensures c.in-Attribute.is) (c.write-in-Attribute.ensures _ c.plain-in-Attribute.ensures)
