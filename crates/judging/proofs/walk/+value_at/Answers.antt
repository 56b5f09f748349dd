-- `judging::value_at` meets its contract, by recursion on the node number: an operator's operands stand below it (`below`). The
-- node that was read says which tree is at it (`tree_at_lem`), and each arm gives what `value_of` gives such a tree: a leaf's value by its marks
-- (`leaf_at_lem`), or what the operator makes of its operands' values (`is_then`, `between`). A text is one whose names the marks are.
use Prim.Native.Nat.{ℕ, ◌+◌, ◌-◌, ◌<◌}
use native.Mathlib.Omega.{arith}
use mathlib.Core.Path.{◌≡◌, sym, ◌∙◌, subst}
use mathlib.Core.List.{List}
use Rattle.paper.specs.Keys.{Key}
use Rattle.paper.specs.Entry.{Entry}
use Rattle.paper.specs.Grammar.{Tree}
use Rattle.paper.specs.Meaning.{Value, value_of, prefix_value}
use Rattle.keys.specs.Says.{keys_in}
use Rattle.values.specs.Held.{held, Is}
use Rattle.operands.specs.Conforming.{entry_in}
use Rattle.trees.specs.declared.node.Node.{Node}
use Rattle.trees.specs.declared.node.Node.TheVariants.{Without, Before, Between}
use Rattle.trees.specs.Nodes.{node_at, leaf_at, place_at, left_of}
use Rattle.trees.specs.Standing.{tree_on, tree_at, prefix_meant}
use Rattle.trees.specs.Marks.{Marked, operand_at}
use Rattle.trees.proofs.Walks.{below, tree_at_lem}
use Rattle.trees.proofs.Marking.{marked_below}
use Rattle.judging.specs.Values.{operand_value, operator_value}
use Rattle.judging.proofs.Valued.{is_then, between, leaf_at_lem}
use Rattle.judging.proofs.walk.+value_at.Goals as goal

abbrev nodes : (t : ℕ) → (goal.After-leaf_value t) → List ℕ
nodes t c = c.args.nodes.now

abbrev at : (t : ℕ) → (goal.After-leaf_value t) → ℕ
at t c = c.args.at

abbrev keys : (t : ℕ) → (goal.After-leaf_value t) → List Key
keys t c = keys_in c.args.list.now

abbrev entry : (t : ℕ) → (goal.After-leaf_value t) → Entry
entry t c = entry_in c.args.list.now c.args.entry.now

-- the marks of a node and of those before it are those of the text's names
abbrev Marks : (t : ℕ) → (goal.After-leaf_value t) → List ℕ → ℕ → Type 0
Marks t c text i = Marked (keys t c) text (nodes t c) (i + 1)

-- a value is right of a tree
abbrev Right : (t : ℕ) → (goal.After-leaf_value t) → Tree → Value → Type 0
Right t c x v = Is (value_of (keys t c) (entry t c) x) v

-- a leaf
by_marks : (t : ℕ) → (c : (goal.After-leaf_value t)) (text : List ℕ) (i : ℕ) → Without ≡ node_at (nodes t c) i → Marks t c text i → (v : Value)
    → Is (operand_value (keys t c) (entry t c) (operand_at (nodes t c) i)) v → Right t c (tree_at text (nodes t c) i) v
by_marks t c text i e marked v h = leaf_at_lem (keys t c) (entry t c) text (nodes t c) i e marked v h

pub returns-in-Without : goal.returns-in-Without
returns-in-Without t c text marked =
    by_marks t c text (at t c) (sym c.in-Without.is ∙ c.read-n.ensures) marked (held c.leaf_value.result) c.leaf_value.ensures

abbrev nodes_2 : (t : ℕ) → (goal.In-Before t) → List ℕ
nodes_2 t c = c.args.nodes.now

abbrev at_2 : (t : ℕ) → (goal.In-Before t) → ℕ
at_2 t c = c.args.at

prefixed_is : (t : ℕ) → (c : (goal.In-Before t)) → Before c.in-Before.o ≡ node_at (nodes_2 t c) (at_2 t c)
prefixed_is t c = sym c.in-Before.is ∙ c.read-n.ensures

prefixed_below : (t : ℕ) → (c : (goal.In-Before t)) → 0 < at_2 t c
prefixed_below t c = below (nodes_2 t c) (at_2 t c) _ (prefixed_is t c)

pub overflow_sub-at : goal.overflow_sub-at
overflow_sub-at t c = let l = prefixed_below t c in omega arith

pub value_at-a-requires : goal.value_at-a-requires
value_at-a-requires t c =
    let l = prefixed_below t c in
    let given = c.requires in
    (omega arith, (omega (arith, given.0), given.1))

abbrev nodes_3 : (t : ℕ) → (goal.After-prefix_value t) → List ℕ
nodes_3 t c = c.args.nodes.now

abbrev at_3 : (t : ℕ) → (goal.After-prefix_value t) → ℕ
at_3 t c = c.args.at

abbrev keys_2 : (t : ℕ) → (goal.After-prefix_value t) → List Key
keys_2 t c = keys_in c.args.list.now

abbrev entry_2 : (t : ℕ) → (goal.After-prefix_value t) → Entry
entry_2 t c = entry_in c.args.list.now c.args.entry.now

-- the marks of a node and of those before it are those of the text's names
abbrev Marks_2 : (t : ℕ) → (goal.After-prefix_value t) → List ℕ → ℕ → Type 0
Marks_2 t c text i = Marked (keys_2 t c) text (nodes_3 t c) (i + 1)

marks_below : (t : ℕ) → (c : (goal.After-prefix_value t)) (text : List ℕ) → Marks_2 t c text (at_3 t c) → (i : ℕ) → i < at_3 t c → Marks_2 t c text i
marks_below t c text marked i l = marked_below (keys_2 t c) text (nodes_3 t c) (omega arith) marked

-- a value is right of a tree
abbrev Right_2 : (t : ℕ) → (goal.After-prefix_value t) → Tree → Value → Type 0
Right_2 t c x v = Is (value_of (keys_2 t c) (entry_2 t c) x) v

-- what is right of the tree that a node makes is right of the tree at it
by_node : (t : ℕ) → (c : (goal.After-prefix_value t)) (text : List ℕ) (i : ℕ) (n : Node) → n ≡ node_at (nodes_3 t c) i → (v : Value)
    → Right_2 t c (tree_on text (place_at (nodes_3 t c) i) (leaf_at (nodes_3 t c) i) n (tree_at text (nodes_3 t c) (left_of n)) (tree_at text (nodes_3 t c) (i - 1))) v → Right_2 t c (tree_at text (nodes_3 t c) i) v
by_node t c text i n e v h = subst (λ (x : Tree). Right_2 t c x v) (sym (tree_at_lem text (nodes_3 t c) i n e)) h

prefixed_is_2 : (t : ℕ) → (c : (goal.After-prefix_value t)) → Before c.in-Before.o ≡ node_at (nodes_3 t c) (at_3 t c)
prefixed_is_2 t c = sym c.in-Before.is ∙ c.read-n.ensures

prefixed_below_2 : (t : ℕ) → (c : (goal.After-prefix_value t)) → 0 < at_3 t c
prefixed_below_2 t c = below (nodes_3 t c) (at_3 t c) _ (prefixed_is_2 t c)

pub returns-in-Before : goal.returns-in-Before
unfolding value_of
returns-in-Before t c text marked =
    let l = prefixed_below_2 t c in
    let a = c.value_at-a in
    by_node t c text (at_3 t c) _ (prefixed_is_2 t c) (held c.prefix_value.result)
    (is_then (value_of (keys_2 t c) (entry_2 t c) (tree_at text (nodes_3 t c) (at_3 t c - 1))) (prefix_value (prefix_meant c.in-Before.o)) (held a.result) (held c.prefix_value.result)
    (a.ensures text (marks_below t c text marked (at_3 t c - 1) (omega arith))) c.prefix_value.ensures)

abbrev nodes_4 : (t : ℕ) → (goal.In-Between t) → List ℕ
nodes_4 t c = c.args.nodes.now

abbrev at_4 : (t : ℕ) → (goal.In-Between t) → ℕ
at_4 t c = c.args.at

operated_is : (t : ℕ) → (c : (goal.In-Between t)) → Between c.in-Between.o c.in-Between.left ≡ node_at (nodes_4 t c) (at_4 t c)
operated_is t c = sym c.in-Between.is ∙ c.read-n.ensures

operated_below : (t : ℕ) → (c : (goal.In-Between t)) → c.in-Between.left < at_4 t c
operated_below t c = below (nodes_4 t c) (at_4 t c) _ (operated_is t c)

pub value_at-a-requires-in-Between : goal.value_at-a-requires-in-Between
value_at-a-requires-in-Between t c =
    let l = operated_below t c in
    let given = c.requires in
    (omega arith, (omega (arith, given.0), given.1))

abbrev nodes_5 : (t : ℕ) → (goal.After-value_at-a-in-Between t) → List ℕ
nodes_5 t c = c.args.nodes.now

abbrev at_5 : (t : ℕ) → (goal.After-value_at-a-in-Between t) → ℕ
at_5 t c = c.args.at

operated_is_2 : (t : ℕ) → (c : (goal.After-value_at-a-in-Between t)) → Between c.in-Between.o c.in-Between.left ≡ node_at (nodes_5 t c) (at_5 t c)
operated_is_2 t c = sym c.in-Between.is ∙ c.read-n.ensures

operated_below_2 : (t : ℕ) → (c : (goal.After-value_at-a-in-Between t)) → c.in-Between.left < at_5 t c
operated_below_2 t c = below (nodes_5 t c) (at_5 t c) _ (operated_is_2 t c)

pub overflow_sub-at-in-Between : goal.overflow_sub-at-in-Between
overflow_sub-at-in-Between t c = let l = operated_below_2 t c in omega arith

abbrev nodes_6 : (t : ℕ) → (goal.In_default t) → List ℕ
nodes_6 t c = c.args.nodes.now

abbrev at_6 : (t : ℕ) → (goal.In_default t) → ℕ
at_6 t c = c.args.at

operated_is_3 : (t : ℕ) → (c : (goal.In_default t)) → Between c.in-Between.o c.in-Between.left ≡ node_at (nodes_6 t c) (at_6 t c)
operated_is_3 t c = sym c.in-Between.is ∙ c.read-n.ensures

operated_below_3 : (t : ℕ) → (c : (goal.In_default t)) → c.in-Between.left < at_6 t c
operated_below_3 t c = below (nodes_6 t c) (at_6 t c) _ (operated_is_3 t c)

pub overflow_sub-at-in_default : goal.overflow_sub-at-in_default
overflow_sub-at-in_default t c = let l = operated_below_3 t c in omega arith

pub value_at-b-requires : goal.value_at-b-requires
value_at-b-requires t c =
    let l = operated_below_3 t c in
    let given = c.requires in
    (omega arith, (omega (arith, given.0), given.1))

abbrev nodes_7 : (t : ℕ) → (goal.After-operator_value t) → List ℕ
nodes_7 t c = c.args.nodes.now

abbrev at_7 : (t : ℕ) → (goal.After-operator_value t) → ℕ
at_7 t c = c.args.at

abbrev keys_3 : (t : ℕ) → (goal.After-operator_value t) → List Key
keys_3 t c = keys_in c.args.list.now

abbrev entry_3 : (t : ℕ) → (goal.After-operator_value t) → Entry
entry_3 t c = entry_in c.args.list.now c.args.entry.now

-- the marks of a node and of those before it are those of the text's names
abbrev Marks_3 : (t : ℕ) → (goal.After-operator_value t) → List ℕ → ℕ → Type 0
Marks_3 t c text i = Marked (keys_3 t c) text (nodes_7 t c) (i + 1)

marks_below_2 : (t : ℕ) → (c : (goal.After-operator_value t)) (text : List ℕ) → Marks_3 t c text (at_7 t c) → (i : ℕ) → i < at_7 t c → Marks_3 t c text i
marks_below_2 t c text marked i l = marked_below (keys_3 t c) text (nodes_7 t c) (omega arith) marked

-- a value is right of a tree
abbrev Right_3 : (t : ℕ) → (goal.After-operator_value t) → Tree → Value → Type 0
Right_3 t c x v = Is (value_of (keys_3 t c) (entry_3 t c) x) v

-- what is right of the tree that a node makes is right of the tree at it
by_node_2 : (t : ℕ) → (c : (goal.After-operator_value t)) (text : List ℕ) (i : ℕ) (n : Node) → n ≡ node_at (nodes_7 t c) i → (v : Value)
    → Right_3 t c (tree_on text (place_at (nodes_7 t c) i) (leaf_at (nodes_7 t c) i) n (tree_at text (nodes_7 t c) (left_of n)) (tree_at text (nodes_7 t c) (i - 1))) v → Right_3 t c (tree_at text (nodes_7 t c) i) v
by_node_2 t c text i n e v h = subst (λ (x : Tree). Right_3 t c x v) (sym (tree_at_lem text (nodes_7 t c) i n e)) h

operated_is_4 : (t : ℕ) → (c : (goal.After-operator_value t)) → Between c.in-Between.o c.in-Between.left ≡ node_at (nodes_7 t c) (at_7 t c)
operated_is_4 t c = sym c.in-Between.is ∙ c.read-n.ensures

operated_below_4 : (t : ℕ) → (c : (goal.After-operator_value t)) → c.in-Between.left < at_7 t c
operated_below_4 t c = below (nodes_7 t c) (at_7 t c) _ (operated_is_4 t c)

-- and from values of both operands to that of the operator
joined : (t : ℕ) → (c : (goal.After-operator_value t)) (text : List ℕ) → Marks_3 t c text (at_7 t c) → (b v : Value) → Right_3 t c (tree_at text (nodes_7 t c) (at_7 t c - 1)) b
    → Is (operator_value c.in-Between.o (held c.value_at-a-in-Between.result) b) v → Right_3 t c (tree_at text (nodes_7 t c) (at_7 t c)) v
joined t c text marked b v h k =
    by_node_2 t c text (at_7 t c) _ (operated_is_4 t c) v
    (between (keys_3 t c) (entry_3 t c) c.in-Between.o (place_at (nodes_7 t c) (at_7 t c)) _ _ (held c.value_at-a-in-Between.result) b v
    (c.value_at-a-in-Between.ensures text (marks_below_2 t c text marked _ (operated_below_4 t c))) h k)

-- the right operand's marks
right_marks : (t : ℕ) → (c : (goal.After-operator_value t)) (text : List ℕ) → Marks_3 t c text (at_7 t c) → Marks_3 t c text (at_7 t c - 1)
right_marks t c text marked = let l = operated_below_4 t c in marks_below_2 t c text marked (at_7 t c - 1) (omega arith)

pub returns-in_default : goal.returns-in_default
returns-in_default t c text marked =
    let b = c.value_at-b in
    joined t c text marked (held b.result) (held c.operator_value.result) (b.ensures text (right_marks t c text marked)) c.operator_value.ensures

abbrev nodes_8 : (t : ℕ) → (goal.After-operator_value-in-Between t) → List ℕ
nodes_8 t c = c.args.nodes.now

abbrev at_8 : (t : ℕ) → (goal.After-operator_value-in-Between t) → ℕ
at_8 t c = c.args.at

abbrev keys_4 : (t : ℕ) → (goal.After-operator_value-in-Between t) → List Key
keys_4 t c = keys_in c.args.list.now

abbrev entry_4 : (t : ℕ) → (goal.After-operator_value-in-Between t) → Entry
entry_4 t c = entry_in c.args.list.now c.args.entry.now

-- the marks of a node and of those before it are those of the text's names
abbrev Marks_4 : (t : ℕ) → (goal.After-operator_value-in-Between t) → List ℕ → ℕ → Type 0
Marks_4 t c text i = Marked (keys_4 t c) text (nodes_8 t c) (i + 1)

marks_below_3 : (t : ℕ) → (c : (goal.After-operator_value-in-Between t)) (text : List ℕ) → Marks_4 t c text (at_8 t c) → (i : ℕ) → i < at_8 t c → Marks_4 t c text i
marks_below_3 t c text marked i l = marked_below (keys_4 t c) text (nodes_8 t c) (omega arith) marked

-- a value is right of a tree
abbrev Right_4 : (t : ℕ) → (goal.After-operator_value-in-Between t) → Tree → Value → Type 0
Right_4 t c x v = Is (value_of (keys_4 t c) (entry_4 t c) x) v

-- what is right of the tree that a node makes is right of the tree at it
by_node_3 : (t : ℕ) → (c : (goal.After-operator_value-in-Between t)) (text : List ℕ) (i : ℕ) (n : Node) → n ≡ node_at (nodes_8 t c) i → (v : Value)
    → Right_4 t c (tree_on text (place_at (nodes_8 t c) i) (leaf_at (nodes_8 t c) i) n (tree_at text (nodes_8 t c) (left_of n)) (tree_at text (nodes_8 t c) (i - 1))) v → Right_4 t c (tree_at text (nodes_8 t c) i) v
by_node_3 t c text i n e v h = subst (λ (x : Tree). Right_4 t c x v) (sym (tree_at_lem text (nodes_8 t c) i n e)) h

-- a leaf
by_marks_2 : (t : ℕ) → (c : (goal.After-operator_value-in-Between t)) (text : List ℕ) (i : ℕ) → Without ≡ node_at (nodes_8 t c) i → Marks_4 t c text i → (v : Value)
    → Is (operand_value (keys_4 t c) (entry_4 t c) (operand_at (nodes_8 t c) i)) v → Right_4 t c (tree_at text (nodes_8 t c) i) v
by_marks_2 t c text i e marked v h = leaf_at_lem (keys_4 t c) (entry_4 t c) text (nodes_8 t c) i e marked v h

operated_is_5 : (t : ℕ) → (c : (goal.After-operator_value-in-Between t)) → Between c.in-Between.o c.in-Between.left ≡ node_at (nodes_8 t c) (at_8 t c)
operated_is_5 t c = sym c.in-Between.is ∙ c.read-n.ensures

operated_below_5 : (t : ℕ) → (c : (goal.After-operator_value-in-Between t)) → c.in-Between.left < at_8 t c
operated_below_5 t c = below (nodes_8 t c) (at_8 t c) _ (operated_is_5 t c)

-- and from values of both operands to that of the operator
joined_2 : (t : ℕ) → (c : (goal.After-operator_value-in-Between t)) (text : List ℕ) → Marks_4 t c text (at_8 t c) → (b v : Value) → Right_4 t c (tree_at text (nodes_8 t c) (at_8 t c - 1)) b
    → Is (operator_value c.in-Between.o (held c.value_at-a-in-Between.result) b) v → Right_4 t c (tree_at text (nodes_8 t c) (at_8 t c)) v
joined_2 t c text marked b v h k =
    by_node_3 t c text (at_8 t c) _ (operated_is_5 t c) v
    (between (keys_4 t c) (entry_4 t c) c.in-Between.o (place_at (nodes_8 t c) (at_8 t c)) _ _ (held c.value_at-a-in-Between.result) b v
    (c.value_at-a-in-Between.ensures text (marks_below_3 t c text marked _ (operated_below_5 t c))) h k)

-- the right operand's marks
right_marks_2 : (t : ℕ) → (c : (goal.After-operator_value-in-Between t)) (text : List ℕ) → Marks_4 t c text (at_8 t c) → Marks_4 t c text (at_8 t c - 1)
right_marks_2 t c text marked = let l = operated_below_5 t c in marks_below_3 t c text marked (at_8 t c - 1) (omega arith)

pub returns-in-Without-right : goal.returns-in-Without-right
returns-in-Without-right t c text marked =
    let b = c.leaf_value-b in
    joined_2 t c text marked (held b.result) (held c.operator_value-in-Between.result)
    (by_marks_2 t c text (at_8 t c - 1) (sym c.in-Without-right.is ∙ c.read-right.ensures) (right_marks_2 t c text marked) (held b.result) b.ensures)
    c.operator_value-in-Between.ensures
