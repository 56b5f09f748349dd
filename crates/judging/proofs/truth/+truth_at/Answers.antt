-- `judging::truth_at` meets its contract, by recursion on the node number: an operator's operands stand below it (`below`). The node that
-- was read says which tree is at it (`tree_at_lem`), and each arm tells the truth that such a tree is worth: a leaf's by its value (`leaf_at_lem`,
-- `of_value`), that of "!" by its operand's (`turned`), that of a comparison as `compared` says it, and that of a join by the left operand
-- alone where it settles the join (`by_left`), else by the right one (`by_right`). "-" makes no truth (`no_truth`).
use Prim.Native.Nat.{ℕ, ◌+◌, ◌-◌, ◌<◌}
use native.Mathlib.Omega.{arith}
use mathlib.Core.Path.{◌≡◌, refl, sym, ◌∙◌, ap, subst}
use mathlib.Core.Bool.{Bool, false, not}
use mathlib.Core.List.{List}
use Rattle.paper.specs.Keys.{Key}
use Rattle.paper.specs.Entry.{Entry}
use Rattle.paper.specs.Grammar.{Tree}
use Rattle.paper.specs.Meaning.{value_of, connective}
use Rattle.keys.specs.Says.{keys_in}
use Rattle.values.specs.Held.{held}
use Rattle.operands.specs.Conforming.{entry_in}
use Rattle.trees.specs.declared.node.Prefix.TheVariants.{Not, Minus}
use Rattle.trees.specs.declared.node.Operator.{Operator}
use Rattle.trees.specs.declared.node.Operator.TheVariants.{Joins, Compares}
use Rattle.trees.specs.declared.node.Node.{Node}
use Rattle.trees.specs.declared.node.Node.TheVariants.{Before, Between}
use Rattle.trees.specs.Nodes.{node_at, leaf_at, place_at, left_of}
use Rattle.trees.specs.Standing.{tree_on, tree_at, join_meant}
use Rattle.trees.specs.Marks.{Marked}
use Rattle.trees.proofs.Walks.{below, tree_at_lem}
use Rattle.trees.proofs.Marking.{marked_below}
use Rattle.judging.specs.Truths.{IsTruth}
use Rattle.judging.proofs.Valued.{leaf_at_lem}
use Rattle.judging.proofs.Truths.{of_value, turned, no_truth, by_left, by_right}
use Rattle.judging.proofs.truth.+truth_at.Goals as goal

abbrev nodes : (t : ℕ) → (goal.After-is_true t) → List ℕ
nodes t c = c.args.nodes.now

abbrev at : (t : ℕ) → (goal.After-is_true t) → ℕ
at t c = c.args.at

abbrev keys : (t : ℕ) → (goal.After-is_true t) → List Key
keys t c = keys_in c.args.list.now

abbrev entry : (t : ℕ) → (goal.After-is_true t) → Entry
entry t c = entry_in c.args.list.now c.args.entry.now

-- a leaf
pub returns-in-Without : goal.returns-in-Without
returns-in-Without t c text marked =
    let v = c.leaf_value-worth in
    of_value (value_of (keys t c) (entry t c) (tree_at text (nodes t c) (at t c))) (held v.result) c.is_true.result
    (leaf_at_lem (keys t c) (entry t c) text (nodes t c) (at t c) (sym c.in-Without.is ∙ c.read-n.ensures) marked (held v.result) v.ensures)
    c.is_true.ensures

abbrev nodes_2 : (t : ℕ) → (goal.In-Not t) → List ℕ
nodes_2 t c = c.args.nodes.now

abbrev at_2 : (t : ℕ) → (goal.In-Not t) → ℕ
at_2 t c = c.args.at

prefixed_is : (t : ℕ) → (c : (goal.In-Not t)) → Before c.in-Before.o ≡ node_at (nodes_2 t c) (at_2 t c)
prefixed_is t c = sym c.in-Before.is ∙ c.read-n.ensures

prefixed_below : (t : ℕ) → (c : (goal.In-Not t)) → 0 < at_2 t c
prefixed_below t c = below (nodes_2 t c) (at_2 t c) _ (prefixed_is t c)

pub overflow_sub-at : goal.overflow_sub-at
overflow_sub-at t c = let l = prefixed_below t c in omega arith

pub truth_at-requires : goal.truth_at-requires
truth_at-requires t c =
    let l = prefixed_below t c in
    let given = c.requires in
    (omega arith, (omega (arith, given.0), given.1))

abbrev nodes_3 : (t : ℕ) → (goal.After-truth_at t) → List ℕ
nodes_3 t c = c.args.nodes.now

abbrev at_3 : (t : ℕ) → (goal.After-truth_at t) → ℕ
at_3 t c = c.args.at

abbrev keys_2 : (t : ℕ) → (goal.After-truth_at t) → List Key
keys_2 t c = keys_in c.args.list.now

abbrev entry_2 : (t : ℕ) → (goal.After-truth_at t) → Entry
entry_2 t c = entry_in c.args.list.now c.args.entry.now

-- the marks of a node and of those before it are those of the text's names
abbrev Marks : (t : ℕ) → (goal.After-truth_at t) → List ℕ → ℕ → Type 0
Marks t c text i = Marked (keys_2 t c) text (nodes_3 t c) (i + 1)

marks_below : (t : ℕ) → (c : (goal.After-truth_at t)) (text : List ℕ) → Marks t c text (at_3 t c) → (i : ℕ) → i < at_3 t c → Marks t c text i
marks_below t c text marked i l = marked_below (keys_2 t c) text (nodes_3 t c) (omega arith) marked

-- a truth is right of a tree
abbrev Right : (t : ℕ) → (goal.After-truth_at t) → Tree → Bool → Type 0
Right t c x b = IsTruth (value_of (keys_2 t c) (entry_2 t c) x) b

-- what is right of the tree that a node makes is right of the tree at it
by_node : (t : ℕ) → (c : (goal.After-truth_at t)) (text : List ℕ) (n : Node) → n ≡ node_at (nodes_3 t c) (at_3 t c) → (b : Bool)
    → Right t c (tree_on text (place_at (nodes_3 t c) (at_3 t c)) (leaf_at (nodes_3 t c) (at_3 t c)) n (tree_at text (nodes_3 t c) (left_of n)) (tree_at text (nodes_3 t c) (at_3 t c - 1))) b → Right t c (tree_at text (nodes_3 t c) (at_3 t c)) b
by_node t c text n e b h = subst (λ (x : Tree). Right t c x b) (sym (tree_at_lem text (nodes_3 t c) (at_3 t c) n e)) h

prefixed_is_2 : (t : ℕ) → (c : (goal.After-truth_at t)) → Before c.in-Before.o ≡ node_at (nodes_3 t c) (at_3 t c)
prefixed_is_2 t c = sym c.in-Before.is ∙ c.read-n.ensures

prefixed_below_2 : (t : ℕ) → (c : (goal.After-truth_at t)) → 0 < at_3 t c
prefixed_below_2 t c = below (nodes_3 t c) (at_3 t c) _ (prefixed_is_2 t c)

pub returns-in-Not : goal.returns-in-Not
unfolding value_of
returns-in-Not t c text marked =
    let l = prefixed_below_2 t c in
    let a = c.truth_at in
    by_node t c text (Before Not) (ap Before (sym c.in-Not.is) ∙ prefixed_is_2 t c) (not a.result)
    (turned (value_of (keys_2 t c) (entry_2 t c) (tree_at text (nodes_3 t c) (at_3 t c - 1))) a.result (a.ensures text (marks_below t c text marked (at_3 t c - 1) (omega arith))))

abbrev nodes_4 : (t : ℕ) → (goal.In-Minus t) → List ℕ
nodes_4 t c = c.args.nodes.now

abbrev at_4 : (t : ℕ) → (goal.In-Minus t) → ℕ
at_4 t c = c.args.at

abbrev keys_3 : (t : ℕ) → (goal.In-Minus t) → List Key
keys_3 t c = keys_in c.args.list.now

abbrev entry_3 : (t : ℕ) → (goal.In-Minus t) → Entry
entry_3 t c = entry_in c.args.list.now c.args.entry.now

-- a truth is right of a tree
abbrev Right_2 : (t : ℕ) → (goal.In-Minus t) → Tree → Bool → Type 0
Right_2 t c x b = IsTruth (value_of (keys_3 t c) (entry_3 t c) x) b

-- what is right of the tree that a node makes is right of the tree at it
by_node_2 : (t : ℕ) → (c : (goal.In-Minus t)) (text : List ℕ) (n : Node) → n ≡ node_at (nodes_4 t c) (at_4 t c) → (b : Bool)
    → Right_2 t c (tree_on text (place_at (nodes_4 t c) (at_4 t c)) (leaf_at (nodes_4 t c) (at_4 t c)) n (tree_at text (nodes_4 t c) (left_of n)) (tree_at text (nodes_4 t c) (at_4 t c - 1))) b → Right_2 t c (tree_at text (nodes_4 t c) (at_4 t c)) b
by_node_2 t c text n e b h = subst (λ (x : Tree). Right_2 t c x b) (sym (tree_at_lem text (nodes_4 t c) (at_4 t c) n e)) h

prefixed_is_3 : (t : ℕ) → (c : (goal.In-Minus t)) → Before c.in-Before.o ≡ node_at (nodes_4 t c) (at_4 t c)
prefixed_is_3 t c = sym c.in-Before.is ∙ c.read-n.ensures

pub returns-in-Minus : goal.returns-in-Minus
unfolding value_of
returns-in-Minus t c text marked =
    by_node_2 t c text (Before Minus) (ap Before (sym c.in-Minus.is) ∙ prefixed_is_3 t c) false
    (no_truth (value_of (keys_3 t c) (entry_3 t c) (tree_at text (nodes_4 t c) (at_4 t c - 1))) false)

abbrev nodes_5 : (t : ℕ) → (goal.In-Joins t) → List ℕ
nodes_5 t c = c.args.nodes.now

abbrev at_5 : (t : ℕ) → (goal.In-Joins t) → ℕ
at_5 t c = c.args.at

abbrev left : (t : ℕ) → (goal.In-Joins t) → ℕ
left t c = c.in-Between.left

operated_is : (t : ℕ) → (c : (goal.In-Joins t)) {o : Operator} → c.in-Between.o ≡ o → Between o (left t c) ≡ node_at (nodes_5 t c) (at_5 t c)
operated_is t c e = ap (λ (o : Operator). Between o (left t c)) (sym e) ∙ sym c.in-Between.is ∙ c.read-n.ensures

operated_below : (t : ℕ) → (c : (goal.In-Joins t)) → left t c < at_5 t c
operated_below t c = below (nodes_5 t c) (at_5 t c) _ (operated_is t c refl)

pub truth_at-requires-in-Joins : goal.truth_at-requires-in-Joins
truth_at-requires-in-Joins t c =
    let l = operated_below t c in
    let given = c.requires in
    (omega arith, (omega (arith, given.0), given.1))

abbrev nodes_6 : (t : ℕ) → (goal.Else-settles t) → List ℕ
nodes_6 t c = c.args.nodes.now

abbrev at_6 : (t : ℕ) → (goal.Else-settles t) → ℕ
at_6 t c = c.args.at

abbrev left_2 : (t : ℕ) → (goal.Else-settles t) → ℕ
left_2 t c = c.in-Between.left

operated_is_2 : (t : ℕ) → (c : (goal.Else-settles t)) {o : Operator} → c.in-Between.o ≡ o → Between o (left_2 t c) ≡ node_at (nodes_6 t c) (at_6 t c)
operated_is_2 t c e = ap (λ (o : Operator). Between o (left_2 t c)) (sym e) ∙ sym c.in-Between.is ∙ c.read-n.ensures

operated_below_2 : (t : ℕ) → (c : (goal.Else-settles t)) → left_2 t c < at_6 t c
operated_below_2 t c = below (nodes_6 t c) (at_6 t c) _ (operated_is_2 t c refl)

pub overflow_sub-at-in-Joins : goal.overflow_sub-at-in-Joins
overflow_sub-at-in-Joins t c = let l = operated_below_2 t c in omega arith

pub truth_at-requires-in-Joins-2 : goal.truth_at-requires-in-Joins-2
truth_at-requires-in-Joins-2 t c =
    let l = operated_below_2 t c in
    let given = c.requires in
    (omega arith, (omega (arith, given.0), given.1))

abbrev nodes_7 : (t : ℕ) → (goal.After-settled t) → List ℕ
nodes_7 t c = c.args.nodes.now

abbrev at_7 : (t : ℕ) → (goal.After-settled t) → ℕ
at_7 t c = c.args.at

abbrev keys_4 : (t : ℕ) → (goal.After-settled t) → List Key
keys_4 t c = keys_in c.args.list.now

abbrev entry_4 : (t : ℕ) → (goal.After-settled t) → Entry
entry_4 t c = entry_in c.args.list.now c.args.entry.now

-- the marks of a node and of those before it are those of the text's names
abbrev Marks_2 : (t : ℕ) → (goal.After-settled t) → List ℕ → ℕ → Type 0
Marks_2 t c text i = Marked (keys_4 t c) text (nodes_7 t c) (i + 1)

marks_below_2 : (t : ℕ) → (c : (goal.After-settled t)) (text : List ℕ) → Marks_2 t c text (at_7 t c) → (i : ℕ) → i < at_7 t c → Marks_2 t c text i
marks_below_2 t c text marked i l = marked_below (keys_4 t c) text (nodes_7 t c) (omega arith) marked

-- a truth is right of a tree
abbrev Right_3 : (t : ℕ) → (goal.After-settled t) → Tree → Bool → Type 0
Right_3 t c x b = IsTruth (value_of (keys_4 t c) (entry_4 t c) x) b

-- what is right of the tree that a node makes is right of the tree at it
by_node_3 : (t : ℕ) → (c : (goal.After-settled t)) (text : List ℕ) (n : Node) → n ≡ node_at (nodes_7 t c) (at_7 t c) → (b : Bool)
    → Right_3 t c (tree_on text (place_at (nodes_7 t c) (at_7 t c)) (leaf_at (nodes_7 t c) (at_7 t c)) n (tree_at text (nodes_7 t c) (left_of n)) (tree_at text (nodes_7 t c) (at_7 t c - 1))) b → Right_3 t c (tree_at text (nodes_7 t c) (at_7 t c)) b
by_node_3 t c text n e b h = subst (λ (x : Tree). Right_3 t c x b) (sym (tree_at_lem text (nodes_7 t c) (at_7 t c) n e)) h

abbrev left_3 : (t : ℕ) → (goal.After-settled t) → ℕ
left_3 t c = c.in-Between.left

operated_is_3 : (t : ℕ) → (c : (goal.After-settled t)) {o : Operator} → c.in-Between.o ≡ o → Between o (left_3 t c) ≡ node_at (nodes_7 t c) (at_7 t c)
operated_is_3 t c e = ap (λ (o : Operator). Between o (left_3 t c)) (sym e) ∙ sym c.in-Between.is ∙ c.read-n.ensures

operated_below_3 : (t : ℕ) → (c : (goal.After-settled t)) → left_3 t c < at_7 t c
operated_below_3 t c = below (nodes_7 t c) (at_7 t c) _ (operated_is_3 t c refl)

left_marks : (t : ℕ) → (c : (goal.After-settled t)) (text : List ℕ) → Marks_2 t c text (at_7 t c) → Marks_2 t c text (left_3 t c)
left_marks t c text marked = marks_below_2 t c text marked (left_3 t c) (operated_below_3 t c)

pub returns-then-settles : goal.returns-then-settles
unfolding value_of
returns-then-settles t c text marked =
    let a = c.truth_at-in-Joins in
    by_node_3 t c text (Between (Joins c.in-Joins.j) (left_3 t c)) (operated_is_3 t c c.in-Joins.is) c.settled.result
    (simp c.settled.ensures
    (by_left (connective (join_meant c.in-Joins.j)) (value_of (keys_4 t c) (entry_4 t c) (tree_at text (nodes_7 t c) (left_3 t c)))
    (value_of (keys_4 t c) (entry_4 t c) (tree_at text (nodes_7 t c) (at_7 t c - 1))) a.result (a.ensures text (left_marks t c text marked))
    (sym c.settles.ensures ∙ c.if-settles.true)))

abbrev nodes_8 : (t : ℕ) → (goal.After-truth_at-in-Joins-2 t) → List ℕ
nodes_8 t c = c.args.nodes.now

abbrev at_8 : (t : ℕ) → (goal.After-truth_at-in-Joins-2 t) → ℕ
at_8 t c = c.args.at

abbrev keys_5 : (t : ℕ) → (goal.After-truth_at-in-Joins-2 t) → List Key
keys_5 t c = keys_in c.args.list.now

abbrev entry_5 : (t : ℕ) → (goal.After-truth_at-in-Joins-2 t) → Entry
entry_5 t c = entry_in c.args.list.now c.args.entry.now

-- the marks of a node and of those before it are those of the text's names
abbrev Marks_3 : (t : ℕ) → (goal.After-truth_at-in-Joins-2 t) → List ℕ → ℕ → Type 0
Marks_3 t c text i = Marked (keys_5 t c) text (nodes_8 t c) (i + 1)

marks_below_3 : (t : ℕ) → (c : (goal.After-truth_at-in-Joins-2 t)) (text : List ℕ) → Marks_3 t c text (at_8 t c) → (i : ℕ) → i < at_8 t c → Marks_3 t c text i
marks_below_3 t c text marked i l = marked_below (keys_5 t c) text (nodes_8 t c) (omega arith) marked

-- a truth is right of a tree
abbrev Right_4 : (t : ℕ) → (goal.After-truth_at-in-Joins-2 t) → Tree → Bool → Type 0
Right_4 t c x b = IsTruth (value_of (keys_5 t c) (entry_5 t c) x) b

-- what is right of the tree that a node makes is right of the tree at it
by_node_4 : (t : ℕ) → (c : (goal.After-truth_at-in-Joins-2 t)) (text : List ℕ) (n : Node) → n ≡ node_at (nodes_8 t c) (at_8 t c) → (b : Bool)
    → Right_4 t c (tree_on text (place_at (nodes_8 t c) (at_8 t c)) (leaf_at (nodes_8 t c) (at_8 t c)) n (tree_at text (nodes_8 t c) (left_of n)) (tree_at text (nodes_8 t c) (at_8 t c - 1))) b → Right_4 t c (tree_at text (nodes_8 t c) (at_8 t c)) b
by_node_4 t c text n e b h = subst (λ (x : Tree). Right_4 t c x b) (sym (tree_at_lem text (nodes_8 t c) (at_8 t c) n e)) h

abbrev left_4 : (t : ℕ) → (goal.After-truth_at-in-Joins-2 t) → ℕ
left_4 t c = c.in-Between.left

operated_is_4 : (t : ℕ) → (c : (goal.After-truth_at-in-Joins-2 t)) {o : Operator} → c.in-Between.o ≡ o → Between o (left_4 t c) ≡ node_at (nodes_8 t c) (at_8 t c)
operated_is_4 t c e = ap (λ (o : Operator). Between o (left_4 t c)) (sym e) ∙ sym c.in-Between.is ∙ c.read-n.ensures

operated_below_4 : (t : ℕ) → (c : (goal.After-truth_at-in-Joins-2 t)) → left_4 t c < at_8 t c
operated_below_4 t c = below (nodes_8 t c) (at_8 t c) _ (operated_is_4 t c refl)

left_marks_2 : (t : ℕ) → (c : (goal.After-truth_at-in-Joins-2 t)) (text : List ℕ) → Marks_3 t c text (at_8 t c) → Marks_3 t c text (left_4 t c)
left_marks_2 t c text marked = marks_below_3 t c text marked (left_4 t c) (operated_below_4 t c)

right_marks : (t : ℕ) → (c : (goal.After-truth_at-in-Joins-2 t)) (text : List ℕ) → Marks_3 t c text (at_8 t c) → Marks_3 t c text (at_8 t c - 1)
right_marks t c text marked = let l = operated_below_4 t c in marks_below_3 t c text marked (at_8 t c - 1) (omega arith)

pub returns-else-settles : goal.returns-else-settles
unfolding value_of
returns-else-settles t c text marked =
    let a = c.truth_at-in-Joins in
    let b = c.truth_at-in-Joins-2 in
    by_node_4 t c text (Between (Joins c.in-Joins.j) (left_4 t c)) (operated_is_4 t c c.in-Joins.is) b.result
    (by_right (connective (join_meant c.in-Joins.j)) (value_of (keys_5 t c) (entry_5 t c) (tree_at text (nodes_8 t c) (left_4 t c)))
    (value_of (keys_5 t c) (entry_5 t c) (tree_at text (nodes_8 t c) (at_8 t c - 1))) a.result b.result (a.ensures text (left_marks_2 t c text marked))
    (sym c.settles.ensures ∙ c.if-settles.false) (b.ensures text (right_marks t c text marked)))

abbrev nodes_9 : (t : ℕ) → (goal.In-Compares t) → List ℕ
nodes_9 t c = c.args.nodes.now

abbrev at_9 : (t : ℕ) → (goal.In-Compares t) → ℕ
at_9 t c = c.args.at

abbrev left_5 : (t : ℕ) → (goal.In-Compares t) → ℕ
left_5 t c = c.in-Between.left

operated_is_5 : (t : ℕ) → (c : (goal.In-Compares t)) {o : Operator} → c.in-Between.o ≡ o → Between o (left_5 t c) ≡ node_at (nodes_9 t c) (at_9 t c)
operated_is_5 t c e = ap (λ (o : Operator). Between o (left_5 t c)) (sym e) ∙ sym c.in-Between.is ∙ c.read-n.ensures

operated_below_5 : (t : ℕ) → (c : (goal.In-Compares t)) → left_5 t c < at_9 t c
operated_below_5 t c = below (nodes_9 t c) (at_9 t c) _ (operated_is_5 t c refl)

-- a comparison
pub overflow_sub-at-in-Compares : goal.overflow_sub-at-in-Compares
overflow_sub-at-in-Compares t c = let l = operated_below_5 t c in omega arith

pub compared-requires : goal.compared-requires
compared-requires t c =
    let l = operated_below_5 t c in
    let given = c.requires in
    (omega (arith, given.0), omega (arith, given.0), given.1)

abbrev nodes_10 : (t : ℕ) → (goal.After-compared t) → List ℕ
nodes_10 t c = c.args.nodes.now

abbrev at_10 : (t : ℕ) → (goal.After-compared t) → ℕ
at_10 t c = c.args.at

abbrev keys_6 : (t : ℕ) → (goal.After-compared t) → List Key
keys_6 t c = keys_in c.args.list.now

abbrev entry_6 : (t : ℕ) → (goal.After-compared t) → Entry
entry_6 t c = entry_in c.args.list.now c.args.entry.now

-- the marks of a node and of those before it are those of the text's names
abbrev Marks_4 : (t : ℕ) → (goal.After-compared t) → List ℕ → ℕ → Type 0
Marks_4 t c text i = Marked (keys_6 t c) text (nodes_10 t c) (i + 1)

marks_below_4 : (t : ℕ) → (c : (goal.After-compared t)) (text : List ℕ) → Marks_4 t c text (at_10 t c) → (i : ℕ) → i < at_10 t c → Marks_4 t c text i
marks_below_4 t c text marked i l = marked_below (keys_6 t c) text (nodes_10 t c) (omega arith) marked

-- a truth is right of a tree
abbrev Right_5 : (t : ℕ) → (goal.After-compared t) → Tree → Bool → Type 0
Right_5 t c x b = IsTruth (value_of (keys_6 t c) (entry_6 t c) x) b

-- what is right of the tree that a node makes is right of the tree at it
by_node_5 : (t : ℕ) → (c : (goal.After-compared t)) (text : List ℕ) (n : Node) → n ≡ node_at (nodes_10 t c) (at_10 t c) → (b : Bool)
    → Right_5 t c (tree_on text (place_at (nodes_10 t c) (at_10 t c)) (leaf_at (nodes_10 t c) (at_10 t c)) n (tree_at text (nodes_10 t c) (left_of n)) (tree_at text (nodes_10 t c) (at_10 t c - 1))) b → Right_5 t c (tree_at text (nodes_10 t c) (at_10 t c)) b
by_node_5 t c text n e b h = subst (λ (x : Tree). Right_5 t c x b) (sym (tree_at_lem text (nodes_10 t c) (at_10 t c) n e)) h

abbrev left_6 : (t : ℕ) → (goal.After-compared t) → ℕ
left_6 t c = c.in-Between.left

operated_is_6 : (t : ℕ) → (c : (goal.After-compared t)) {o : Operator} → c.in-Between.o ≡ o → Between o (left_6 t c) ≡ node_at (nodes_10 t c) (at_10 t c)
operated_is_6 t c e = ap (λ (o : Operator). Between o (left_6 t c)) (sym e) ∙ sym c.in-Between.is ∙ c.read-n.ensures

operated_below_6 : (t : ℕ) → (c : (goal.After-compared t)) → left_6 t c < at_10 t c
operated_below_6 t c = below (nodes_10 t c) (at_10 t c) _ (operated_is_6 t c refl)

left_marks_3 : (t : ℕ) → (c : (goal.After-compared t)) (text : List ℕ) → Marks_4 t c text (at_10 t c) → Marks_4 t c text (left_6 t c)
left_marks_3 t c text marked = marks_below_4 t c text marked (left_6 t c) (operated_below_6 t c)

right_marks_2 : (t : ℕ) → (c : (goal.After-compared t)) (text : List ℕ) → Marks_4 t c text (at_10 t c) → Marks_4 t c text (at_10 t c - 1)
right_marks_2 t c text marked = let l = operated_below_6 t c in marks_below_4 t c text marked (at_10 t c - 1) (omega arith)

pub returns-in-Compares : goal.returns-in-Compares
returns-in-Compares t c text marked =
    by_node_5 t c text (Between (Compares c.in-Compares.c) (left_6 t c)) (operated_is_6 t c c.in-Compares.is) c.compared.result
    (c.compared.ensures text (left_marks_3 t c text marked) (right_marks_2 t c text marked) (place_at (nodes_10 t c) (at_10 t c)))
