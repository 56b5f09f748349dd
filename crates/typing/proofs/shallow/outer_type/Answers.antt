-- `typing::outer_type` meets its contract: a leaf has the type that its marks tell (`leaf_is`), and an operator that is no "-" makes
-- bool of operands that it takes (`other_bool`).
use mathlib.Core.Path.{sym, ◌∙◌, ap}
use Rattle.paper.specs.Answers.{ok}
use Rattle.keys.specs.Says.{keys_in}
use Rattle.typing.proofs.Walked.{leaf_is}
use Rattle.typing.proofs.Other.{other_bool}
use Rattle.typing.proofs.shallow.outer_type.Goals as goal

pub returns-in-Without : goal.returns-in-Without
returns-in-Without c text marked a typed =
    let g = c.args in
    c.leaf_type.ensures ∙ leaf_is (keys_in g.list.now) text g.nodes.now g.i (sym c.in-Without.is ∙ c.read-n.ensures) marked ∙ typed

pub returns-in-Before : goal.returns-in-Before
returns-in-Before c text marked a typed =
    let g = c.args in
    ap ok (other_bool text g.nodes.now g.i c.read-n.result c.read-n.ensures c.requires.1 (keys_in g.list.now) a c.in-Before.is typed)
