-- The functions of the walk meet their contracts, each by those of the functions that it calls. The measure falls from call to call: an
-- operator's operands stand below it, and a comparison is written by the walk's other function at the same node.
-- In `write_comparison` two leaves are written by themselves; otherwise each operand by the walk and its conversion after it, and then the
-- comparison, which is the code of the whole (`all_written`). In `write_tree` the node that was read says in which parts the code of its tree
-- stands (`leaf_code`, `prefixed_code`, `joined_written`); each is written after the one before, but for the skip of a join, which is written
-- into its place when what it passes over stands. Each part has room because the whole has.
use Prim.Native.Nat.{ℕ}
use native.Mathlib.Omega.{arith}
use mathlib.Core.Path.{◌≡◌, sym, ◌∙◌, ap}
use mathlib.Core.List.{List}
use lib.ListN.{length}
use Rattle.paper.specs.Translating.{code_of}
use Rattle.keys.specs.Says.{keys_in}
use Rattle.trees.specs.declared.node.Node.{Node}
use Rattle.trees.specs.declared.node.Node.TheVariants.{Without, Between}
use Rattle.trees.specs.declared.node.Join.{Join}
use Rattle.trees.specs.declared.node.Operator.{Operator}
use Rattle.trees.specs.declared.node.Operator.TheVariants.{Joins}
use Rattle.trees.specs.Nodes.{node_at}
use Rattle.trees.specs.Standing.{tree_at}
use Rattle.translating.specs.Own.{own_at}
use Rattle.translating.specs.Writing.{Writes}
use Rattle.translating.proofs.Rows.{wrote_as, wrote_on}
use Rattle.translating.proofs.Parted.{leaf_code, prefixed_code}
use Rattle.translating.proofs.Written.{joined_written}
use Rattle.translating.proofs.Walked as walked
use Rattle.translating.proofs.walk.+write_comparison_write_tree.Goals as goal

pub write_comparison-overflow_sub-at : goal.write_comparison-overflow_sub-at
write_comparison-overflow_sub-at t c = let l = walked.left_below c.args.nodes.now c.args.at c.requires.compares_at.1 in omega arith

pub write_comparison-both_leaves-requires : goal.write_comparison-both_leaves-requires
write_comparison-both_leaves-requires t c = walked.both_in_nodes c.args.nodes.now c.args.at c.requires.compares_at.1 c.requires.at_in_bounds.0

pub write_comparison-write_tree-after_left-requires : goal.write_comparison-write_tree-after_left-requires
write_comparison-write_tree-after_left-requires t c =
    let e = c.requires.compares_at.1 in
    let given = c.requires.at_in_bounds in
    let l = walked.left_below c.args.nodes.now c.args.at e in
    (omega arith, ((walked.both_in_nodes c.args.nodes.now c.args.at e given.0).0, (given.1.0, walked.left_writes e given.1.1)))

pub write_comparison-overflow_sub-at-2 : goal.write_comparison-overflow_sub-at-2
write_comparison-overflow_sub-at-2 t c = let l = walked.left_below c.args.nodes.now c.args.at c.requires.compares_at.1 in omega arith

pub write_comparison-changes_at-changes-requires : goal.write_comparison-changes_at-changes-requires
write_comparison-changes_at-changes-requires t c = walked.both_in_nodes c.args.nodes.now c.args.at c.requires.compares_at.1 c.requires.at_in_bounds.0

pub write_comparison-write_change-before_right-requires : goal.write_comparison-write_change-before_right-requires
write_comparison-write_change-before_right-requires t c =
    let e = c.requires.compares_at.1 in
    let text = c.requires.at_in_bounds.1.0 in
    let w = c.requires.at_in_bounds.1.1 in
    let told = c.changes_at-changes.ensures text in
    walked.left_change_room e w told told (c.write_tree-after_left.ensures text (walked.left_writes e w))

pub write_comparison-overflow_sub-at-3 : goal.write_comparison-overflow_sub-at-3
write_comparison-overflow_sub-at-3 t c = let l = walked.left_below c.args.nodes.now c.args.at c.requires.compares_at.1 in omega arith

pub write_comparison-write_tree-after_right-requires : goal.write_comparison-write_tree-after_right-requires
write_comparison-write_tree-after_right-requires t c =
    let e = c.requires.compares_at.1 in
    let given = c.requires.at_in_bounds in
    let text = given.1.0 in
    let w = given.1.1 in
    let told = c.changes_at-changes.ensures text in
    let first = c.write_tree-after_left.ensures text (walked.left_writes e w) in
    let l = walked.left_below c.args.nodes.now c.args.at e in
    (omega arith, ((walked.both_in_nodes c.args.nodes.now c.args.at e given.0).1, (text, walked.right_writes e w told told first c.write_change-before_right.ensures)))

pub write_comparison-overflow_sub-at-4 : goal.write_comparison-overflow_sub-at-4
write_comparison-overflow_sub-at-4 t c = let l = walked.left_below c.args.nodes.now c.args.at c.requires.compares_at.1 in omega arith

pub write_comparison-changes_at-again-requires : goal.write_comparison-changes_at-again-requires
write_comparison-changes_at-again-requires t c = walked.both_in_nodes c.args.nodes.now c.args.at c.requires.compares_at.1 c.requires.at_in_bounds.0

pub write_comparison-write_change-before_own-requires : goal.write_comparison-write_change-before_own-requires
write_comparison-write_change-before_own-requires t c =
    let e = c.requires.compares_at.1 in
    let text = c.requires.at_in_bounds.1.0 in
    let w = c.requires.at_in_bounds.1.1 in
    let told = c.changes_at-changes.ensures text in
    let first = c.write_tree-after_left.ensures text (walked.left_writes e w) in
    let changed = c.write_change-before_right.ensures in
    let second = c.write_tree-after_right.ensures text (walked.right_writes e w told told first changed) in
    walked.right_change_room e w told (c.changes_at-again.ensures text) first changed second

pub write_comparison-write_own-requires : goal.write_comparison-write_own-requires
write_comparison-write_own-requires t c =
    let e = c.requires.compares_at.1 in
    let given = c.requires.at_in_bounds in
    let text = given.1.0 in
    let w = given.1.1 in
    let told = c.changes_at-changes.ensures text in
    let first = c.write_tree-after_left.ensures text (walked.left_writes e w) in
    let changed = c.write_change-before_right.ensures in
    let second = c.write_tree-after_right.ensures text (walked.right_writes e w told told first changed) in
    (given.0, walked.own_room e w told (c.changes_at-again.ensures text) first changed second c.write_change-before_own.ensures)

pub write_comparison-returns : goal.write_comparison-returns
write_comparison-returns t c text w =
    let e = c.requires.compares_at.1 in
    let told = c.changes_at-changes.ensures text in
    let first = c.write_tree-after_left.ensures text (walked.left_writes e w) in
    let changed = c.write_change-before_right.ensures in
    let second = c.write_tree-after_right.ensures text (walked.right_writes e w told told first changed) in
    walked.all_written e w told (c.changes_at-again.ensures text) first changed second c.write_change-before_own.ensures c.write_own.ensures

-- the node that was read is the one at the place
read_at : (nodes : List ℕ) (at : ℕ) {m n : Node} → m ≡ node_at nodes at → m ≡ n → n ≡ node_at nodes at
read_at nodes at read e = sym e ∙ read

-- a leaf

leaf_is : {list nodes code text : List ℕ} {at i : ℕ} → Without ≡ node_at nodes at → Writes list nodes code at i text
    → own_at nodes at ≡ code_of (keys_in list) (tree_at text nodes at)
leaf_is {list} {nodes} {text = text} {at} e w = leaf_code list nodes at text e w.known

pub write_tree-write_own-requires : goal.write_tree-write_own-requires
write_tree-write_own-requires t c =
    let w = c.requires.1.1 in
    (c.requires.0, omega (arith, w.room, ap length (leaf_is (read_at c.args.nodes.now c.args.at c.read.ensures c.in-Without.is) w)))

pub write_tree-returns-in-Without : goal.write_tree-returns-in-Without
write_tree-returns-in-Without t c text w = wrote_as (leaf_is (read_at c.args.nodes.now c.args.at c.read.ensures c.in-Without.is) w) c.write_own.ensures

-- an operator before its operand

pub write_tree-overflow_sub-at : goal.write_tree-overflow_sub-at
write_tree-overflow_sub-at t c = let l = walked.operand_below c.args.nodes.now c.args.at (read_at c.args.nodes.now c.args.at c.read.ensures c.in-Before.is) in omega arith

pub write_tree-write_tree-after-requires : goal.write_tree-write_tree-after-requires
write_tree-write_tree-after-requires t c =
    let e = read_at c.args.nodes.now c.args.at c.read.ensures c.in-Before.is in
    let l = walked.operand_below c.args.nodes.now c.args.at e in
    (omega arith, (omega (arith, c.requires.0), (c.requires.1.0, walked.operand_writes e c.requires.1.1)))

pub write_tree-write_own-requires-in-Before : goal.write_tree-write_own-requires-in-Before
write_tree-write_own-requires-in-Before t c =
    let e = read_at c.args.nodes.now c.args.at c.read.ensures c.in-Before.is in
    let w = c.requires.1.1 in
    (c.requires.0, walked.prefix_room e w (c.write_tree-after.ensures c.requires.1.0 (walked.operand_writes e w)))

pub write_tree-returns-in-Before : goal.write_tree-returns-in-Before
write_tree-returns-in-Before t c text w =
    let e = read_at c.args.nodes.now c.args.at c.read.ensures c.in-Before.is in
    wrote_as (prefixed_code c.args.list.now c.args.nodes.now c.args.at text _ e w.known)
    (wrote_on (c.write_tree-after.ensures text (walked.operand_writes e w)) c.write_own-in-Before.ensures)

-- a join

joined_is : (nodes : List ℕ) (at : ℕ) {left : ℕ} {n : Node} {o : Operator} {j : Join} → n ≡ node_at nodes at → n ≡ Between o left → o ≡ Joins j
    → Between (Joins j) left ≡ node_at nodes at
joined_is nodes at {left} read e f = ap (λ (o : Operator). Between o left) (sym f) ∙ read_at nodes at read e

pub write_tree-write_tree-after_left-requires : goal.write_tree-write_tree-after_left-requires
write_tree-write_tree-after_left-requires t c =
    let e = joined_is c.args.nodes.now c.args.at c.read.ensures c.in-Between-Joins-default.is c.in-Between-Joins-default.field-0-is in
    let l = walked.left_below c.args.nodes.now c.args.at e in
    (omega arith, ((walked.both_in_nodes c.args.nodes.now c.args.at e c.requires.0).0, (c.requires.1.0, walked.first_writes e c.requires.1.1)))

pub write_tree-overflow_sub-at-in-Between-Joins-default : goal.write_tree-overflow_sub-at-in-Between-Joins-default
write_tree-overflow_sub-at-in-Between-Joins-default t c = let l = walked.left_below c.args.nodes.now c.args.at (joined_is c.args.nodes.now c.args.at c.read.ensures c.in-Between-Joins-default.is c.in-Between-Joins-default.field-0-is) in omega arith

pub write_tree-overflow_add-after_left : goal.write_tree-overflow_add-after_left
write_tree-overflow_add-after_left t c =
    let e = joined_is c.args.nodes.now c.args.at c.read.ensures c.in-Between-Joins-default.is c.in-Between-Joins-default.field-0-is in
    let w = c.requires.1.1 in
    let h = walked.place_fits e w (c.write_tree-after_left.ensures c.requires.1.0 (walked.first_writes e w)) in
    omega arith

pub write_tree-write_tree-before_own-requires : goal.write_tree-write_tree-before_own-requires
write_tree-write_tree-before_own-requires t c =
    let e = joined_is c.args.nodes.now c.args.at c.read.ensures c.in-Between-Joins-default.is c.in-Between-Joins-default.field-0-is in
    let text = c.requires.1.0 in
    let w = c.requires.1.1 in
    let l = walked.left_below c.args.nodes.now c.args.at e in
    let first = c.write_tree-after_left.ensures text (walked.first_writes e w) in
    (omega arith, ((walked.both_in_nodes c.args.nodes.now c.args.at e c.requires.0).1, (text, walked.second_writes e w first)))

pub write_tree-write_own-end-requires : goal.write_tree-write_own-end-requires
write_tree-write_own-end-requires t c =
    let e = joined_is c.args.nodes.now c.args.at c.read.ensures c.in-Between-Joins-default.is c.in-Between-Joins-default.field-0-is in
    let text = c.requires.1.0 in
    let w = c.requires.1.1 in
    let first = c.write_tree-after_left.ensures text (walked.first_writes e w) in
    let second = c.write_tree-before_own.ensures text (walked.second_writes e w first) in
    (c.requires.0, walked.join_room e w first second)

pub write_tree-overflow_sub-before_own : goal.write_tree-overflow_sub-before_own
write_tree-overflow_sub-before_own t c =
    let e = joined_is c.args.nodes.now c.args.at c.read.ensures c.in-Between-Joins-default.is c.in-Between-Joins-default.field-0-is in
    let text = c.requires.1.0 in
    let w = c.requires.1.1 in
    let first = c.write_tree-after_left.ensures text (walked.first_writes e w) in
    let second = c.write_tree-before_own.ensures text (walked.second_writes e w first) in
    omega (arith, second.next)

pub write_tree-write_skip-requires : goal.write_tree-write_skip-requires
write_tree-write_skip-requires t c =
    let e = joined_is c.args.nodes.now c.args.at c.read.ensures c.in-Between-Joins-default.is c.in-Between-Joins-default.field-0-is in
    let text = c.requires.1.0 in
    let w = c.requires.1.1 in
    let first = c.write_tree-after_left.ensures text (walked.first_writes e w) in
    let second = c.write_tree-before_own.ensures text (walked.second_writes e w first) in
    (c.requires.0, walked.skip_room e w first second c.write_own-end.ensures _)

pub write_tree-returns-in-Between-Joins-default : goal.write_tree-returns-in-Between-Joins-default
write_tree-returns-in-Between-Joins-default t c text w =
    let e = joined_is c.args.nodes.now c.args.at c.read.ensures c.in-Between-Joins-default.is c.in-Between-Joins-default.field-0-is in
    let first = c.write_tree-after_left.ensures text (walked.first_writes e w) in
    joined_written c.args.list.now c.args.nodes.now c.args.at text _ _ e w.known first
    (c.write_tree-before_own.ensures text (walked.second_writes e w first)) c.write_own-end.ensures c.write_skip.ensures
