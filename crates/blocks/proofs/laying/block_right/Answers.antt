-- The tests that were made are those of the definition (`right_by`): where one fails it decides, and past those that hold the check does.
use mathlib.Core.Path.{sym, ◌∙◌}
use native.Mathlib.Omega.{arith}
use Rattle.blocks.proofs.Layouts.{right_by}
use Rattle.blocks.proofs.laying.block_right.Goals.{then-names, else-names}
use Rattle.blocks.proofs.laying.block_right.Goals as goal

pub returns-then-code_right : goal.returns-then-code_right
returns-then-code_right c =
    let a = c.args in
    let tests = right_by a.keys a.total a.k a.later a.block.now c.read-b.result c.read-b.ensures in
    elim c.if-names.branch [
      | then-names w ↦
          c.check_right.ensures
          ∙ sym (tests ∙ rw (sym c.names.ensures ∙ w.if-names.true, sym w.code_right.ensures ∙ sym w.value-is ∙ c.if-code_right.true))
      | else-names w ↦ grind (arith, w.value-is, c.if-code_right.true)
    ]

pub returns-else-code_right : goal.returns-else-code_right
returns-else-code_right c =
    let a = c.args in
    let tests = right_by a.keys a.total a.k a.later a.block.now c.read-b.result c.read-b.ensures in
    elim c.if-names.branch [
      | then-names w ↦
          c.if-code_right.false
          ∙ sym (tests ∙ rw (sym c.names.ensures ∙ w.if-names.true, sym w.code_right.ensures ∙ sym w.value-is ∙ c.if-code_right.false))
      | else-names w ↦ c.if-code_right.false ∙ sym (tests ∙ rw (sym c.names.ensures ∙ w.if-names.false))
    ]
