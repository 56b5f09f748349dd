-- `judging::holds` meets its contract: a tree that has the right types is worth a truth (`truth_told`), which the walk tells, or `compared` of a tree
-- that is a comparison: the node that was read says that it is one (`tree_at_lem`), and its operands stand below it (`below`).
use Prim.Native.Nat.{ℕ, ◌<◌}
use native.Mathlib.Omega.{arith}
use mathlib.Core.Path.{◌≡◌, sym, ap, subst, ◌∙◌}
use mathlib.Core.List.{List}
use Rattle.paper.specs.Grammar.{Tree}
use Rattle.paper.specs.Meaning.{value_of}
use Rattle.keys.specs.Says.{keys_in}
use Rattle.operands.specs.Conforming.{entry_in}
use Rattle.trees.specs.declared.node.Operator.{Operator}
use Rattle.trees.specs.declared.node.Operator.TheVariants.{Compares}
use Rattle.trees.specs.declared.node.Comparison.{Comparison}
use Rattle.trees.specs.declared.node.Node.TheVariants.{Between}
use Rattle.trees.specs.Nodes.{node_at, place_at}
use Rattle.trees.specs.Standing.{tree_at}
use Rattle.trees.proofs.Walks.{below, tree_at_lem}
use Rattle.trees.proofs.Marking.{marked_below}
use Rattle.judging.specs.Truths.{IsTruth}
use Rattle.judging.proofs.Truths.{truth_told}
use Rattle.judging.proofs.holding.holds.Goals as goal

abbrev nodes : goal.After-truth_at → List ℕ
nodes c = c.args.nodes.now

abbrev at : goal.After-truth_at → ℕ
at c = c.args.at

-- where it is no operator between operands, and where it is a join: the walk tells
pub returns-in_default : goal.returns-in_default
returns-in_default c text right marked =
    let a = c.args in
    let walked = c.truth_at in
    truth_told a.list.now a.entry.now (tree_at text (nodes c) (at c)) right walked.result (walked.ensures text marked)

abbrev nodes_2 : goal.After-truth_at-in_default-o → List ℕ
nodes_2 c = c.args.nodes.now

abbrev at_2 : goal.After-truth_at-in_default-o → ℕ
at_2 c = c.args.at

pub returns-in_default-o : goal.returns-in_default-o
returns-in_default-o c text right marked =
    let a = c.args in
    let walked = c.truth_at-in_default-o in
    truth_told a.list.now a.entry.now (tree_at text (nodes_2 c) (at_2 c)) right walked.result (walked.ensures text marked)

abbrev nodes_3 : goal.In-Compares → List ℕ
nodes_3 c = c.args.nodes.now

abbrev at_3 : goal.In-Compares → ℕ
at_3 c = c.args.at

abbrev left : goal.In-Compares → ℕ
left c = c.in-Between.left

abbrev comparison : goal.In-Compares → Comparison
comparison c = c.in-Compares.c

node_is : (c : goal.In-Compares) → Between (Compares (comparison c)) (left c) ≡ node_at (nodes_3 c) (at_3 c)
node_is c =
    ap (λ (o : Operator). Between o (left c)) (sym c.in-Compares.is)
    ∙ sym c.in-Between.is
    ∙ c.read-n.ensures

left_below : (c : goal.In-Compares) → left c < at_3 c
left_below c = below (nodes_3 c) (at_3 c) _ (node_is c)

pub overflow_sub-at : goal.overflow_sub-at
overflow_sub-at c = let l = left_below c in omega arith

pub compared-requires : goal.compared-requires
compared-requires c =
    let l = left_below c in
    let given = c.requires in
    (omega (arith, given.0), omega (arith, given.0), given.1)

abbrev nodes_4 : goal.After-compared → List ℕ
nodes_4 c = c.args.nodes.now

abbrev at_4 : goal.After-compared → ℕ
at_4 c = c.args.at

abbrev left_2 : goal.After-compared → ℕ
left_2 c = c.in-Between.left

abbrev comparison_2 : goal.After-compared → Comparison
comparison_2 c = c.in-Compares.c

node_is_2 : (c : goal.After-compared) → Between (Compares (comparison_2 c)) (left_2 c) ≡ node_at (nodes_4 c) (at_4 c)
node_is_2 c =
    ap (λ (o : Operator). Between o (left_2 c)) (sym c.in-Compares.is)
    ∙ sym c.in-Between.is
    ∙ c.read-n.ensures

left_below_2 : (c : goal.After-compared) → left_2 c < at_4 c
left_below_2 c = below (nodes_4 c) (at_4 c) _ (node_is_2 c)

pub returns : goal.returns
returns c text right marked =
    let a = c.args in
    let keys = keys_in a.list.now in
    let l = left_below_2 c in
    let told =
    c.compared.ensures text
    (marked_below keys text (nodes_4 c) (omega arith) marked)
    (marked_below keys text (nodes_4 c) (omega arith) marked)
    (place_at (nodes_4 c) (at_4 c))
    in
    truth_told a.list.now a.entry.now (tree_at text (nodes_4 c) (at_4 c)) right c.compared.result
    (subst (λ (x : Tree). IsTruth (value_of keys (entry_in a.list.now a.entry.now) x) c.compared.result)
    (sym (tree_at_lem text (nodes_4 c) (at_4 c) (Between (Compares (comparison_2 c)) (left_2 c)) (node_is_2 c)))
    told)
