-- `typing::check_types` meets its contract: the type of the tree at the root, and refusal 14 at the root's place unless it is bool.
use mathlib.Core.Path.{sym, ◌∙◌, ap, ap₂}
use Rattle.paper.specs.Answers.{says}
use Rattle.paper.proofs.PassedUp.{passed_up}
use Rattle.keys.specs.Says.{keys_in}
use Rattle.values.specs.Numbered.{ty_numbered}
use Rattle.typing.specs.Says.{numbered_says, bool_at}
use Rattle.typing.proofs.Rooted.{root_passed, root_refused}
use Rattle.typing.proofs.root.check_types.Goals as goal

pub returns-in_err-a : goal.returns-in_err-a
returns-in_err-a c text marked =
    let a = c.args in
    ap says (passed_up _ c.from_residual.ensures.1)
    ∙ root_refused (keys_in a.list.now) text a.nodes.now a.root _ _ _ (sym (c.type_at.ensures text marked) ∙ ap numbered_says c.in_err-a.was)

pub returns : goal.returns
returns c text marked =
    let a = c.args in
    let type = ty_numbered c.in_ok-a.a in
    c.bool_at.ensures
    ∙ ap₂ bool_at c.place_at.ensures c.numbered.ensures
    ∙ root_passed (keys_in a.list.now) text a.nodes.now a.root type (sym (c.type_at.ensures text marked) ∙ ap numbered_says c.in_ok-a.was)
