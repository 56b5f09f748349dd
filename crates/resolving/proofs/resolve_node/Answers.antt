-- `resolving::resolve_node` meets its contract: a leaf without a name stays as it is, one with a name gets the marks of its arm
-- (`key_resolved`, `field_resolved`, `attribute_resolved`).
use mathlib.Core.Path.{sym, ◌∙◌}
use mathlib.Core.Logic.{inl, inr}
use Rattle.keys.specs.Says.{keys_in}
use Rattle.resolving.proofs.Marked.{truth_resolved, number_resolved, key_resolved, field_resolved, attribute_resolved}
use Rattle.resolving.proofs.resolve_node.Goals as goal

pub returns-in-Truth : goal.returns-in-Truth
returns-in-Truth c =
    let ks = keys_in c.args.list.now in
    let leaf = sym c.read-leaf.ensures in
    elim c.in-Truth.is [
      | inl e ↦ truth_resolved ks c.args.text.now _ _ _ (leaf ∙ e.1)
      | inr e ↦ number_resolved ks c.args.text.now _ _ _ _ _ _ _ (leaf ∙ e.5)
    ]

pub returns-in-Key : goal.returns-in-Key
returns-in-Key c =
    rw c.mark.ensures
    (key_resolved (keys_in c.args.list.now) c.args.text.now c.args.nodes.now c.args.i c.requires.1 _ _
    (sym c.read-leaf.ensures ∙ c.in-Key.is) c.key_mark-key.ensures)

pub returns-in-Field : goal.returns-in-Field
returns-in-Field c =
    rw c.mark-in-Field.ensures
    (field_resolved (keys_in c.args.list.now) c.args.text.now c.args.nodes.now c.args.i c.requires.1 _ _ _ _
    (sym c.read-leaf.ensures ∙ c.in-Field.is) c.key_mark-key-in-Field.ensures c.field_mark-name.ensures)

pub returns-in-Attribute : goal.returns-in-Attribute
returns-in-Attribute c =
    rw c.mark-in-Attribute.ensures
    (attribute_resolved (keys_in c.args.list.now) c.args.text.now c.args.nodes.now c.args.i c.requires.1 _ _
    (sym c.read-leaf.ensures ∙ c.in-Attribute.is) c.priority_mark-name.ensures)
