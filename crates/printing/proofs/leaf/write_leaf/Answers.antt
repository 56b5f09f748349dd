-- The leaf that was read is the one at the node (`bytes_read`), and each arm writes the bytes of such a leaf.
use mathlib.Core.Path.{◌≡◌, sym, ◌∙◌, ap}
use mathlib.Core.List.{List}
use Prim.Native.Nat.{ℕ}
use Rattle.paper.specs.Print.{print}
use Rattle.number.specs.Values.{value}
use Rattle.trees.specs.declared.node.Leaf.{Leaf}
use Rattle.trees.specs.Nodes.{leaf_at, place_at}
use Rattle.trees.specs.Standing.{leaf_on}
use Rattle.printing.proofs.Rows.{wrote_as}
use Rattle.printing.proofs.leaf.write_leaf.Goals as goal

-- the bytes of a leaf that was read at a node
bytes_read : (text nodes : List ℕ) (node : ℕ) {read l : Leaf} → read ≡ leaf_at nodes node → read ≡ l
    → print (leaf_on text (place_at nodes node) l) ≡ print (leaf_on text (place_at nodes node) (leaf_at nodes node))
bytes_read text nodes node here is = ap (λ (l : Leaf). print (leaf_on text (place_at nodes node) l)) (sym is ∙ here)

pub returns-in-Truth : goal.returns-in-Truth
unfolding print
returns-in-Truth c =
    let a = c.args in
    wrote_as (bytes_read a.text.now a.nodes.now a.node c.read.ensures c.in-Truth.is) c.write_truth.ensures

pub returns-in-Number : goal.returns-in-Number
unfolding print value
returns-in-Number c =
    let a = c.args in
    wrote_as (bytes_read a.text.now a.nodes.now a.node c.read.ensures c.in-Number.is) c.write_number.ensures

pub returns-in-Key : goal.returns-in-Key
unfolding print
returns-in-Key c =
    let a = c.args in
    wrote_as (bytes_read a.text.now a.nodes.now a.node c.read.ensures c.in-Key.is) c.write_word.ensures

pub returns-in-Field : goal.returns-in-Field
unfolding print
returns-in-Field c =
    let a = c.args in
    wrote_as (bytes_read a.text.now a.nodes.now a.node c.read.ensures c.in-Field.is) c.write_field.ensures

pub returns-in-Attribute : goal.returns-in-Attribute
unfolding print
returns-in-Attribute c =
    let a = c.args in
    wrote_as (bytes_read a.text.now a.nodes.now a.node c.read.ensures c.in-Attribute.is) c.write_name.ensures
