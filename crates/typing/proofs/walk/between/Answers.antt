-- `typing::between` meets its contract: of a comparison that takes its operands' types, the first operand that loses bits is refused at its
-- own place (`place_is`).
use Prim.Native.Nat.{ℕ, ◌-◌}
use mathlib.Core.Path.{◌≡◌, sym, ◌∙◌, ap, ap₂}
use mathlib.Core.List.{List}
use Rattle.paper.specs.Answers.{Answer, ok, refused, in_text}
use Rattle.paper.specs.Grammar.{place_of}
use Rattle.paper.specs.Types.{Ty, operator_type}
use Rattle.values.specs.Typed.{typing_meant}
use Rattle.values.specs.Numbered.{ty_numbered}
use Rattle.trees.specs.Nodes.{place_at}
use Rattle.trees.specs.Standing.{tree_at}
use Rattle.trees.proofs.Walks.{place_is}
use Rattle.typing.specs.Says.{numbered_says, operator_made}
use Rattle.typing.proofs.Leaves.{or_wrong}
use Rattle.typing.proofs.Compared.{left_lost, right_lost}
use Rattle.typing.proofs.walk.between.Goals as goal
use Rattle.typing.proofs.walk.between.Goals.{After-kept}

-- the comparison takes the types
suited : (c : After-kept) → operator_type (place_at c.args.nodes.now c.args.at) (operator_made c.args.o (ty_numbered c.args.a) (ty_numbered c.args.b)) ≡ ok (ty_numbered c.in_ok-made.made)
suited c =
    let types = ap₂ (operator_made c.args.o) c.numbered.ensures c.numbered-2.ensures in
    let wrong = or_wrong c.place_at.result (typing_meant c.operator_type.result) in
    sym (c.by_number.ensures ∙ c.or_refused.ensures ∙ wrong ∙ ap₂ operator_type c.place_at.ensures (c.operator_type.ensures ∙ types))
    ∙ ap numbered_says c.in_ok-made.was

-- refused at an operand's place
at_operand : (text nodes : List ℕ) (i : ℕ) → ◌≡◌ {A = Answer Ty} (refused 23 in_text (place_at nodes i)) (refused 23 in_text (place_of (tree_at text nodes i)))
at_operand text nodes i = ap (refused 23 in_text) (sym (place_is text nodes i))

pub returns-then-not-kept : goal.returns-then-not-kept
returns-then-not-kept c text =
    let a = c.args in
    c.lost.ensures ∙ at_operand text a.nodes.now a.left
    ∙ left_lost (place_at a.nodes.now a.at) _ _ _ _ _ c.in-Compares.is _ (suited (goal.at.returns-then-not-kept c).After-kept)
    (sym (c.kept.ensures text) ∙ c.if-not-kept.true)

pub returns-then-not-kept-2 : goal.returns-then-not-kept-2
returns-then-not-kept-2 c text =
    let a = c.args in
    c.lost-then-not-kept-2.ensures ∙ at_operand text a.nodes.now (a.at - 1)
    ∙ right_lost (place_at a.nodes.now a.at) _ _ _ _ _ c.in-Compares.is _ (suited (goal.at.returns-then-not-kept-2 c).After-kept)
    (sym (c.kept.ensures text) ∙ c.if-not-kept.false)
    (sym (c.kept-2.ensures text) ∙ c.if-not-kept-2.true)
