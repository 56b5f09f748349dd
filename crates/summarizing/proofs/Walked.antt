-- What the tree at a node names, from what its operands name.
use Prim.Native.Nat.{ℕ, ◌-◌}
use native.Mathlib.Omega.{arith}
use mathlib.Core.Path.{◌≡◌, refl, sym, ◌∙◌, ap, subst}
use mathlib.Core.Bool.{◌||◌}
use mathlib.Core.List.{List}
use Rattle.paper.specs.Keys.{Key}
use Rattle.paper.specs.Grammar.{Tree}
use Rattle.paper.specs.Named.{names, marked}
use Rattle.keys.specs.Says.{keys_in}
use Rattle.trees.specs.declared.node.Node.{Node}
use Rattle.trees.specs.declared.node.Node.TheVariants.{Without, Before, Between}
use Rattle.trees.specs.declared.node.Prefix.{Prefix}
use Rattle.trees.specs.declared.node.Operator.{Operator}
use Rattle.trees.specs.declared.node.Operator.TheVariants.{Joins, Compares}
use Rattle.trees.specs.Nodes.{node_at, leaf_at, place_at, left_of}
use Rattle.trees.specs.Standing.{tree_on, tree_at, operator_on}
use Rattle.trees.specs.Marks.{operand_at}
use Rattle.trees.proofs.Walks.{tree_at_lem}
use Rattle.typing.specs.Known.{Known}
use Rattle.typing.proofs.Knowing.{made}
use Rattle.paper.specs.declared.Summary.{Summary}
use Rattle.summarizing.specs.Sums.{Sums, operand_names, operand_marked}
use Rattle.summarizing.proofs.Sets.{sums_as}
use Rattle.summarizing.proofs.Leaves.{leaf_names, leaf_marked}

-- the summary of a tree
abbrev pub Summed : List Key → Tree → Summary → Type 0
Summed ks t s = Sums (names ks t) (marked t) s

-- of what either operand names
between : (ks : List Key) (o : Operator) (at : ℕ) (l r : Tree) (s : Summary) → Sums (λ j. names ks l j || names ks r j) (marked l || marked r) s
    → Summed ks (operator_on at o l r) s
unfolding names marked
between ks (Joins o) at l r s h = sums_as (λ j. refl) refl h
between ks (Compares c) at l r s h = sums_as (λ j. refl) refl h

module _ (list nodes : List ℕ) (at : ℕ) (text : List ℕ) where
  abbrev ks : List Key
  ks = keys_in list

  -- what sums up the tree that a node makes sums up the tree at it
  by_node : (n : Node) → n ≡ node_at nodes at → (s : Summary)
      → Summed ks (tree_on text (place_at nodes at) (leaf_at nodes at) n (tree_at text nodes (left_of n)) (tree_at text nodes (at - 1))) s → Summed ks (tree_at text nodes at) s
  by_node n e s h = subst (λ (t : Tree). Summed ks t s) (sym (tree_at_lem text nodes at n e)) h

  pub leaf_summed : Without ≡ node_at nodes at → Known list nodes at text → (s : Summary)
      → Sums (operand_names (operand_at nodes at)) (operand_marked (operand_at nodes at)) s → Summed ks (tree_at text nodes at) s
  leaf_summed e k s h =
      let place = place_at nodes at in
      let leaf = leaf_at nodes at in
      let marks = k.marked at (omega arith) in
      by_node Without e s
      (sums_as (λ j. ap (λ x. operand_names x j) marks ∙ leaf_names ks text place leaf k.type (made list nodes at text Without e k) j)
      (ap operand_marked marks ∙ leaf_marked ks text place leaf) h)

  -- an operator before its operand names what that does
  pub prefix_summed : (o : Prefix) → Before o ≡ node_at nodes at → (s : Summary) → Summed ks (tree_at text nodes (at - 1)) s → Summed ks (tree_at text nodes at) s
  unfolding names marked
  prefix_summed o e s h = by_node (Before o) e s (sums_as (λ j. refl) refl h)

  pub operator_summed : (o : Operator) (left : ℕ) → Between o left ≡ node_at nodes at → (s : Summary)
      → Sums (λ j. names ks (tree_at text nodes left) j || names ks (tree_at text nodes (at - 1)) j) (marked (tree_at text nodes left) || marked (tree_at text nodes (at - 1))) s
      → Summed ks (tree_at text nodes at) s
  operator_summed o left e s h = by_node (Between o left) e s (between ks o (place_at nodes at) (tree_at text nodes left) (tree_at text nodes (at - 1)) s h)
