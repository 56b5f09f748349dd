-- A node that is "-": its operand stands below it, and has its type, and the number that it spells under the other sign.
use Prim.Native.Nat.{ℕ, ◌-◌, ◌<◌}
use mathlib.Core.Path.{◌≡◌, refl, sym, ◌∙◌, ap}
use mathlib.Core.Bool.{true, false≢true}
use mathlib.Core.Option.{map}
use mathlib.Core.List.{List}
use lib.IntN.{neg_ℤ}
use Rattle.paper.specs.Answers.{ok}
use Rattle.paper.specs.Keys.{Key}
use Rattle.paper.specs.Types.{Ty, spelled, type_of}
use Rattle.trees.specs.declared.node.Node.{Node}
use Rattle.trees.specs.declared.node.Node.TheVariants.{Without, Before, Between}
use Rattle.trees.specs.declared.node.Prefix.TheVariants.{Not, Minus}
use Rattle.trees.specs.Nodes.{node_at, place_at}
use Rattle.trees.specs.Standing.{tree_at}
use Rattle.trees.proofs.Walks.{below, tree_at_lem}
use Rattle.typing.specs.Says.{is_minus}
use Rattle.typing.proofs.Typable.{minus_typed}

minus_is : (n : Node) → is_minus n ≡ true → n ≡ Before Minus
minus_is Without h = absurd (false≢true h)
minus_is (Before Not) h = absurd (false≢true h)
minus_is (Before Minus) h = refl
minus_is (Between o l) h = absurd (false≢true h)

pub minus_below : (nodes : List ℕ) (i : ℕ) → is_minus (node_at nodes i) ≡ true → 0 < i
minus_below nodes i h = below nodes i (Before Minus) (sym (minus_is (node_at nodes i) h))

pub minus_same : (ks : List Key) (text nodes : List ℕ) (i : ℕ) (a : Ty) → is_minus (node_at nodes i) ≡ true
    → type_of ks (tree_at text nodes i) ≡ ok a → type_of ks (tree_at text nodes (i - 1)) ≡ ok a
minus_same ks text nodes i a h typed =
    minus_typed ks (place_at nodes i) a (tree_at text nodes (i - 1))
    (ap (type_of ks) (sym (tree_at_lem text nodes i (Before Minus) (sym (minus_is (node_at nodes i) h)))) ∙ typed)

pub minus_spelled : (text nodes : List ℕ) (i : ℕ) → is_minus (node_at nodes i) ≡ true
    → spelled (tree_at text nodes i) ≡ map neg_ℤ (spelled (tree_at text nodes (i - 1)))
minus_spelled text nodes i h = ap spelled (tree_at_lem text nodes i (Before Minus) (sym (minus_is (node_at nodes i) h)))
