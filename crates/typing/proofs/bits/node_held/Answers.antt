-- `typing::node_held` meets its contract: a leaf spells what the tree at its node does (`tree_at_lem`), and of operators only "-" spells a
-- number (`other_unspelled`).
use mathlib.Core.Path.{sym, ◌∙◌, ap}
use Rattle.paper.specs.Types.{spelled, holds_all}
use Rattle.trees.specs.declared.node.Node.TheVariants.{Without}
use Rattle.trees.specs.declared.node.Leaf.{Leaf}
use Rattle.trees.specs.Nodes.{place_at}
use Rattle.trees.specs.Standing.{leaf_on}
use Rattle.trees.proofs.Walks.{tree_at_lem}
use Rattle.typing.specs.Says.{signed_as}
use Rattle.typing.proofs.Spelled.{none_held}
use Rattle.typing.proofs.Other.{other_unspelled}
use Rattle.typing.proofs.bits.node_held.Goals as goal

pub returns-in-Without : goal.returns-in-Without
returns-in-Without c text =
    let a = c.args in
    let place = place_at a.nodes.now a.i in
    c.leaf_held.ensures text place
    ∙ ap (λ (l : Leaf). holds_all a.w (signed_as a.negative (spelled (leaf_on text place l)))) c.read.ensures
    ∙ ap (λ t. holds_all a.w (signed_as a.negative (spelled t))) (sym (tree_at_lem text a.nodes.now a.i Without (sym c.in-Without.is ∙ c.read-n.ensures)))

pub returns-in-Before : goal.returns-in-Before
returns-in-Before c text =
    let a = c.args in
    none_held a.w a.negative
    ∙ ap (λ o. holds_all a.w (signed_as a.negative o)) (other_unspelled text a.nodes.now a.i c.read-n.result c.read-n.ensures c.requires.1 c.in-Before.is)
