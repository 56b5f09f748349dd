-- A node that is an operator, and no "-": its tree is bool, where it has a type, and spells no number.
use Prim.Native.Nat.{ℕ, ◌-◌}
use mathlib.Core.Logic.{◌⊎◌, inl, inr}
use mathlib.Core.Path.{◌≡◌, sym, ◌∙◌, ap}
use mathlib.Core.Bool.{false}
use mathlib.Core.Option.{none}
use mathlib.Core.List.{List}
use Rattle.paper.specs.Answers.{ok}
use Rattle.paper.specs.Keys.{Key}
use Rattle.paper.specs.Types.{Ty, bool, spelled, type_of}
use Rattle.trees.specs.declared.node.Node.{Node}
use Rattle.trees.specs.declared.node.Node.TheVariants.{Before, Between}
use Rattle.trees.specs.declared.node.Prefix as N
use Rattle.trees.specs.declared.node.Operator.{Operator}
use Rattle.trees.specs.Nodes.{node_at, place_at}
use Rattle.trees.specs.Standing.{tree_at}
use Rattle.trees.proofs.Walks.{tree_at_lem}
use Rattle.typing.specs.Says.{is_minus}
use Rattle.typing.proofs.Typable.{not_bool, operator_typed}
use Rattle.typing.proofs.Spelled.{other_prefix, other_operator}

abbrev Operates : Node → Type 0
Operates n = ((o : N.Prefix) × (n ≡ Before o)) ⊎ ((o : Operator) × (left : ℕ) × (n ≡ Between o left))

module _ (text nodes : List ℕ) (i : ℕ) (n : Node) (here : n ≡ node_at nodes i) (other : is_minus (node_at nodes i) ≡ false) where
  pub is_other : {o : N.Prefix} → n ≡ Before o → is_minus (Before o) ≡ false
  is_other e = ap is_minus (sym e ∙ here) ∙ other

  pub other_bool : (ks : List Key) (a : Ty) → Operates n → type_of ks (tree_at text nodes i) ≡ ok a → bool ≡ a
  other_bool ks a (inl (o, e)) typed =
      not_bool ks (place_at nodes i) a o (tree_at text nodes (i - 1)) (is_other e) (ap (type_of ks) (sym (tree_at_lem text nodes i (Before o) (sym e ∙ here))) ∙ typed)
  other_bool ks a (inr (o, left, e)) typed =
      operator_typed ks (place_at nodes i) a o (tree_at text nodes left) (tree_at text nodes (i - 1))
      (ap (type_of ks) (sym (tree_at_lem text nodes i (Between o left) (sym e ∙ here))) ∙ typed)

  pub other_unspelled : Operates n → none ≡ spelled (tree_at text nodes i)
  other_unspelled (inl (o, e)) =
      other_prefix o (place_at nodes i) (tree_at text nodes (i - 1)) (is_other e) ∙ ap spelled (sym (tree_at_lem text nodes i (Before o) (sym e ∙ here)))
  other_unspelled (inr (o, left, e)) =
      other_operator o (place_at nodes i) (tree_at text nodes left) (tree_at text nodes (i - 1))
      ∙ ap spelled (sym (tree_at_lem text nodes i (Between o left) (sym e ∙ here)))
