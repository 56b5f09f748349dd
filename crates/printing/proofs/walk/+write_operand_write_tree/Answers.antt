-- The functions of the walk meet their contracts, each by that of the other. The node that was read says which tree is at it (`by_node`), and
-- each arm writes the pieces of such a tree one after the other (`wrote_on`): a leaf alone (`by_leaf`), a sign and its operand
-- (`prefix_shown`), two operands around their operator, in parentheses where it is looser than the rung that is asked for
-- (`operator_shown`). An operand that is no leaf is written by the walk at the same node, and operands stand below their operator (`below`).
use Prim.Native.Nat.{ℕ, ◌-◌, ◌<◌}
use native.Mathlib.Omega.{arith}
use mathlib.Core.Path.{◌≡◌, sym, ◌∙◌, ap}
use mathlib.Core.List.{List}
use Rattle.paper.specs.Print.{print}
use Rattle.trees.specs.declared.node.Node.{Node}
use Rattle.trees.specs.declared.node.Node.TheVariants.{Without, Before, Between}
use Rattle.trees.specs.Nodes.{node_at, leaf_at, place_at, left_of}
use Rattle.trees.specs.Standing.{leaf_on, tree_on, tree_at}
use Rattle.trees.proofs.Walks.{below, tree_at_lem}
use Rattle.printing.specs.Writing.{rung_meant}
use Rattle.printing.specs.declared.signs.Rung.{Rung}
use Rattle.printing.proofs.Rows.{wrote_as, wrote_on}
use Rattle.printing.proofs.Shown.{shown, leaf_shown, prefix_shown, operator_shown}
use Rattle.printing.proofs.walk.+write_operand_write_tree.Goals as goal

-- the tree that a node makes is the tree at it
module _ (text nodes : List ℕ) where
  by_node : (k i : ℕ) (n : Node) → n ≡ node_at nodes i
      → shown k (tree_on text (place_at nodes i) (leaf_at nodes i) n (tree_at text nodes (left_of n)) (tree_at text nodes (i - 1))) ≡ shown k (tree_at text nodes i)
  by_node k i n e = ap (shown k) (sym (tree_at_lem text nodes i n e))

  by_leaf : (k : Rung) (i : ℕ) → Without ≡ node_at nodes i → print (leaf_on text (place_at nodes i) (leaf_at nodes i)) ≡ shown (rung_meant k) (tree_at text nodes i)
  by_leaf k i e = leaf_shown k text (place_at nodes i) (leaf_at nodes i) ∙ by_node (rung_meant k) i Without e

-- a leaf

pub write_operand-returns : goal.write_operand-returns
write_operand-returns t c =
    let a = c.args in
    wrote_as (by_leaf a.text.now a.nodes.now a.rung a.node (sym c.in-Without.is ∙ c.read.ensures)) c.write_leaf.ensures

pub write_tree-returns-in-Without : goal.write_tree-returns-in-Without
write_tree-returns-in-Without t c =
    let a = c.args in
    wrote_as (by_leaf a.text.now a.nodes.now a.rung a.node (sym c.in-Without.is ∙ c.read.ensures)) c.write_leaf.ensures

-- an operator before its operand

pub write_tree-overflow_sub-node : goal.write_tree-overflow_sub-node
write_tree-overflow_sub-node t c = below c.args.nodes.now c.args.node _ (sym c.in-Before.is ∙ c.read.ensures)

pub write_tree-write_operand-requires : goal.write_tree-write_operand-requires
write_tree-write_operand-requires t c =
    let l = below c.args.nodes.now c.args.node _ (sym c.in-Before.is ∙ c.read.ensures) in
    (omega arith, omega (arith, c.requires))

pub write_tree-returns-in-Before : goal.write_tree-returns-in-Before
write_tree-returns-in-Before t c =
    let a = c.args in
    let text = a.text.now in
    let nodes = a.nodes.now in
    let o = c.in-Before.o in
    wrote_as
    (prefix_shown a.rung (place_at nodes a.node) o (tree_at text nodes (a.node - 1))
    ∙ by_node text nodes (rung_meant a.rung) a.node (Before o) (sym c.in-Before.is ∙ c.read.ensures))
    (wrote_on c.write_prefix-inside.ensures c.write_operand.ensures)

-- an operator between its operands

pub write_tree-write_operand-after_left-requires : goal.write_tree-write_operand-after_left-requires
write_tree-write_operand-after_left-requires t c =
    let l = below c.args.nodes.now c.args.node _ (sym c.in-Between.is ∙ c.read.ensures) in
    (omega arith, omega (arith, c.requires))

pub write_tree-overflow_sub-node-in-Between : goal.write_tree-overflow_sub-node-in-Between
write_tree-overflow_sub-node-in-Between t c =
    let l : c.in-Between.left < c.args.node = below c.args.nodes.now c.args.node _ (sym c.in-Between.is ∙ c.read.ensures) in
    omega arith

pub write_tree-write_operand-after_right-requires : goal.write_tree-write_operand-after_right-requires
write_tree-write_operand-after_right-requires t c =
    let l : c.in-Between.left < c.args.node = below c.args.nodes.now c.args.node _ (sym c.in-Between.is ∙ c.read.ensures) in
    (omega arith, omega (arith, c.requires))

pub write_tree-returns-in-Between : goal.write_tree-returns-in-Between
write_tree-returns-in-Between t c =
    let a = c.args in
    let text = a.text.now in
    let nodes = a.nodes.now in
    let o = c.in-Between.o in
    let left = c.in-Between.left in
    wrote_as
    (operator_shown (rung_meant a.rung) (place_at nodes a.node) o (tree_at text nodes left) (tree_at text nodes (a.node - 1))
    c.is_looser-needed.ensures c.left_rung.ensures c.right_rung-rung_right.ensures
    ∙ by_node text nodes (rung_meant a.rung) a.node (Between o left) (sym c.in-Between.is ∙ c.read.ensures))
    (wrote_on (wrote_on (wrote_on (wrote_on c.write_needed-opened.ensures c.write_operand-after_left.ensures) c.write_operator-before_right.ensures) c.write_operand-after_right.ensures)
    c.write_needed.ensures)
