-- `translating::write_compared` meets its contract: the code of a leaf is its own (`left_leaf`, `right_leaf`), so that the code of the comparison
-- is what is written, one part after the other (`all_written`); each has room because the whole has. A text is one over which the
-- tree has a type, whose names the marks are, and whose code has room; the caller says that there is one.
use Prim.Native.Nat.{ℕ, ◌-◌}
use native.Mathlib.Omega.{arith}
use mathlib.Core.Path.{◌≡◌, ap}
use mathlib.Core.Bool.{true, ◌&&◌}
use mathlib.Core.List.{List}
use lib.ListN.{length}
use Rattle.paper.specs.Code.{Instruction}
use Rattle.paper.specs.Translating.{code_of}
use Rattle.keys.specs.Says.{keys_in}
use Rattle.trees.specs.declared.node.Node.TheVariants.{Between}
use Rattle.trees.specs.declared.node.Comparison.{Comparison}
use Rattle.trees.specs.declared.node.Operator.TheVariants.{Compares}
use Rattle.trees.specs.Nodes.{node_at}
use Rattle.trees.specs.Standing.{tree_at}
use Rattle.translating.specs.Compared.{is_leaf}
use Rattle.translating.specs.Own.{own_at}
use Rattle.translating.specs.Writing.{Room, Writes}
use Rattle.translating.proofs.Coded.{both_true}
use Rattle.translating.proofs.Parted.{leaf_code}
use Rattle.translating.proofs.Rows.{wrote_as}
use Rattle.translating.proofs.Written.{leaf_node}
use Rattle.translating.proofs.Walked as walked
use Rattle.translating.proofs.compared.write_compared.Goals as goal

-- the code of the operands is their own
module _ {list nodes code text : List ℕ} {at left i : ℕ} {o : Comparison} (e : Between (Compares o) left ≡ node_at nodes at)
    (h : (is_leaf (node_at nodes left) && is_leaf (node_at nodes (at - 1))) ≡ true) (w : Writes list nodes code at i text) where
  left_leaf : own_at nodes left ≡ code_of (keys_in list) (tree_at text nodes left)
  left_leaf = leaf_code list nodes left text (leaf_node _ (both_true _ _ h).0) (walked.left_is e w)

  right_leaf : own_at nodes (at - 1) ≡ code_of (keys_in list) (tree_at text nodes (at - 1))
  right_leaf = leaf_code list nodes (at - 1) text (leaf_node _ (both_true _ _ h).1) (walked.right_is e w)

has_room : (s : List ℕ) (i : ℕ) {xs ys : List Instruction} → xs ≡ ys → Room s i ys → Room s i xs
has_room s i e h = omega (arith, ap length e)

pub changes_at-changes-requires : goal.changes_at-changes-requires
changes_at-changes-requires c = walked.both_in_nodes c.args.nodes.now c.args.at c.requires.compares_at.1 c.requires.at_in_bounds.0

pub write_own-after_left-requires : goal.write_own-after_left-requires
write_own-after_left-requires c =
    let e = c.requires.compares_at.1 in
    let given = c.requires.at_in_bounds in
    let w = given.1.1 in
    ((walked.both_in_nodes c.args.nodes.now c.args.at e given.0).0, has_room c.args.code.now c.args.i (left_leaf e c.requires.at_value w) (walked.left_writes e w).room)

pub write_change-before_right-requires : goal.write_change-before_right-requires
write_change-before_right-requires c =
    let e = c.requires.compares_at.1 in
    let w = c.requires.at_in_bounds.1.1 in
    let told = c.changes_at-changes.ensures c.requires.at_in_bounds.1.0 in
    walked.left_change_room e w told told (wrote_as (left_leaf e c.requires.at_value w) c.write_own-after_left.ensures)

pub write_own-after_right-requires : goal.write_own-after_right-requires
write_own-after_right-requires c =
    let e = c.requires.compares_at.1 in
    let given = c.requires.at_in_bounds in
    let w = given.1.1 in
    let told = c.changes_at-changes.ensures given.1.0 in
    let first = wrote_as (left_leaf e c.requires.at_value w) c.write_own-after_left.ensures in (
      (walked.both_in_nodes c.args.nodes.now c.args.at e given.0).1,
      has_room c.write_change-before_right.new.code c.write_change-before_right.result (right_leaf e c.requires.at_value w) (walked.right_writes e w told told first c.write_change-before_right.ensures).room,
    )

pub write_change-before_own-requires : goal.write_change-before_own-requires
write_change-before_own-requires c =
    let e = c.requires.compares_at.1 in
    let w = c.requires.at_in_bounds.1.1 in
    let told = c.changes_at-changes.ensures c.requires.at_in_bounds.1.0 in
    let first = wrote_as (left_leaf e c.requires.at_value w) c.write_own-after_left.ensures in
    let second = wrote_as (right_leaf e c.requires.at_value w) c.write_own-after_right.ensures in
    walked.right_change_room e w told told first c.write_change-before_right.ensures second

pub write_own-requires : goal.write_own-requires
write_own-requires c =
    let e = c.requires.compares_at.1 in
    let given = c.requires.at_in_bounds in
    let w = given.1.1 in
    let told = c.changes_at-changes.ensures given.1.0 in
    let first = wrote_as (left_leaf e c.requires.at_value w) c.write_own-after_left.ensures in
    let second = wrote_as (right_leaf e c.requires.at_value w) c.write_own-after_right.ensures in
    (given.0, walked.own_room e w told told first c.write_change-before_right.ensures second c.write_change-before_own.ensures)

pub returns : goal.returns
returns c text w =
    let e = c.requires.compares_at.1 in
    let told = c.changes_at-changes.ensures text in
    let first = wrote_as (left_leaf e c.requires.at_value w) c.write_own-after_left.ensures in
    let second = wrote_as (right_leaf e c.requires.at_value w) c.write_own-after_right.ensures in
    walked.all_written e w told told first c.write_change-before_right.ensures second c.write_change-before_own.ensures c.write_own.ensures
