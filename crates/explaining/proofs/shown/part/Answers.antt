-- `explaining::part` meets its contract: the words of the row and the place of its root are those of the part.
use native.Mathlib.Numerals.{add-one}
use mathlib.Core.Path.{sym, ap, ◌∙◌}
use Rattle.paper.specs.Explained.{in_part}
use Rattle.trees.specs.Nodes.{place_at}
use Rattle.trees.proofs.Walks.{place_is}
use Rattle.parts.specs.Rows.{root_at}
use Rattle.explaining.proofs.shown.part.Goals as goal

pub returns : goal.returns
returns c text list =
    let a = c.args in
    let place =
    c.place_at-place.ensures ∙ ap (place_at a.nodes.now) c.root_at-root.ensures
    ∙ sym (place_is text a.nodes.now (root_at a.rows.now a.k)) in
    let from = c.start_at-start.ensures in
    let to = c.end_at-end.ensures in
    λ i. in_part (add-one a.k i) (place i) (record { from = from i; to = to i })
