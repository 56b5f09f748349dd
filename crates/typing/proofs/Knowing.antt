-- What is known of the tree at a node is known of the trees at its operands.
use Prim.Native.Nat.{ℕ, ◌-◌, ◌<◌}
use native.Mathlib.Omega.{arith}
use mathlib.Core.Path.{◌≡◌, sym, ◌∙◌, ap}
use mathlib.Core.List.{List}
use Rattle.paper.specs.Answers.{ok}
use Rattle.paper.specs.Keys.{Key}
use Rattle.paper.specs.Types.{Ty, operator_type, type_of}
use Rattle.keys.specs.Says.{keys_in}
use Rattle.trees.specs.declared.node.Node.{Node}
use Rattle.trees.specs.declared.node.Node.TheVariants.{Before, Between}
use Rattle.trees.specs.declared.node.Prefix as N
use Rattle.trees.specs.declared.node.Operator.{Operator}
use Rattle.trees.specs.Nodes.{node_at, leaf_at, place_at, left_of}
use Rattle.trees.specs.Standing.{tree_on, tree_at, prefix_meant}
use Rattle.trees.proofs.Walks.{below, tree_at_lem}
use Rattle.trees.proofs.Marking.{marked_below}
use Rattle.typing.specs.Says.{operator_made}
use Rattle.typing.specs.Known.{Known}
use Rattle.typing.proofs.Typable.{operand_typed, operands_typed}

module _ (list nodes : List ℕ) (at : ℕ) (text : List ℕ) where
  abbrev ks : List Key
  ks = keys_in list

  -- the marks of a node below
  abbrev known_at : (i : ℕ) → i < at → Known list nodes at text → (a : Ty) → type_of ks (tree_at text nodes i) ≡ ok a → Known list nodes i text
  known_at i l k a typed = record { marked = marked_below ks text nodes (omega arith) k.marked; type = a; typed = typed }

  -- of the tree that the node makes
  pub made : (n : Node) → n ≡ node_at nodes at → (k : Known list nodes at text)
      → type_of ks (tree_on text (place_at nodes at) (leaf_at nodes at) n (tree_at text nodes (left_of n)) (tree_at text nodes (at - 1))) ≡ ok k.type
  made n e k = ap (type_of ks) (sym (tree_at_lem text nodes at n e)) ∙ k.typed

  -- an operator before its operand
  module _ (o : N.Prefix) (e : Before o ≡ node_at nodes at) (k : Known list nodes at text) where
    pub operand_known : Known list nodes (at - 1) text
    operand_known =
        let (b, typed, _) = operand_typed ks (place_at nodes at) k.type (prefix_meant o) (tree_at text nodes (at - 1)) (made (Before o) e k) in
        known_at (at - 1) (let l = below nodes at (Before o) e in omega arith) k b typed

  -- an operator between its operands
  module _ (o : Operator) (left : ℕ) (e : Between o left ≡ node_at nodes at) (k : Known list nodes at text) where
    pub operands : (a b : Ty) × (type_of ks (tree_at text nodes left) ≡ ok a) × (type_of ks (tree_at text nodes (at - 1)) ≡ ok b)
        × (operator_type (place_at nodes at) (operator_made o a b) ≡ ok k.type)
    operands = operands_typed ks (place_at nodes at) k.type o (tree_at text nodes left) (tree_at text nodes (at - 1)) (made (Between o left) e k)

    abbrev right_below : at - 1 < at
    right_below = let l = below nodes at (Between o left) e in omega arith

    abbrev pub left_known : Known list nodes left text
    left_known = known_at left (below nodes at (Between o left) e) k operands.0 operands.2

    abbrev pub right_known : Known list nodes (at - 1) text
    right_known = known_at (at - 1) right_below k operands.1 operands.3
