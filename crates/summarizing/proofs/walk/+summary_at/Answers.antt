-- `summarizing::summary_at` meets its contract, by recursion on the node number: an operator's operands stand below it (`below`). The node
-- that was read says which tree is at it, and what that names is what its operands name (proofs/Walked). A text is one over which the
-- tree has a type, and so have its operands (`operand_known`, `left_known`, `right_known`).
use Prim.Native.Nat.{◌<◌}
use native.Mathlib.Omega.{arith}
use mathlib.Core.Path.{sym, ◌∙◌}
use Rattle.trees.proofs.Walks.{below}
use Rattle.typing.proofs.Knowing.{operand_known, left_known, right_known}
use Rattle.summarizing.proofs.Walked.{leaf_summed, prefix_summed, operator_summed}
use Rattle.summarizing.proofs.walk.+summary_at.Goals as goal

-- a leaf
pub returns-in-Without : goal.returns-in-Without
returns-in-Without t c list text known =
    leaf_summed list c.args.nodes.now c.args.at text (sym c.in-Without.is ∙ c.read-n.ensures) known c.leaf_summary.result c.leaf_summary.ensures

-- an operator before its operand

pub overflow_sub-at : goal.overflow_sub-at
overflow_sub-at t c =
    let l : 0 < c.args.at = below c.args.nodes.now c.args.at _ (sym c.in-Before.is ∙ c.read-n.ensures) in
    omega arith

pub summary_at-requires : goal.summary_at-requires
summary_at-requires t c =
    let l : 0 < c.args.at = below c.args.nodes.now c.args.at _ (sym c.in-Before.is ∙ c.read-n.ensures) in
    (omega arith, omega (arith, c.requires))

pub returns-in-Before : goal.returns-in-Before
returns-in-Before t c list text known =
    let node = sym c.in-Before.is ∙ c.read-n.ensures in
    prefix_summed list c.args.nodes.now c.args.at text _ node c.summary_at.result
    (c.summary_at.ensures list text (operand_known list c.args.nodes.now c.args.at text _ node known))

-- one between two

pub summary_at-a-requires : goal.summary_at-a-requires
summary_at-a-requires t c =
    let l : c.in-Between.left < c.args.at = below c.args.nodes.now c.args.at _ (sym c.in-Between.is ∙ c.read-n.ensures) in
    (omega arith, omega (arith, c.requires))

pub overflow_sub-at-in-Between : goal.overflow_sub-at-in-Between
overflow_sub-at-in-Between t c =
    let l : c.in-Between.left < c.args.at = below c.args.nodes.now c.args.at _ (sym c.in-Between.is ∙ c.read-n.ensures) in
    omega arith

pub summary_at-b-requires : goal.summary_at-b-requires
summary_at-b-requires t c =
    let l : c.in-Between.left < c.args.at = below c.args.nodes.now c.args.at _ (sym c.in-Between.is ∙ c.read-n.ensures) in
    (omega arith, omega (arith, c.requires))

pub returns-in-Between : goal.returns-in-Between
returns-in-Between t c list text known =
    let nodes = c.args.nodes.now in
    let at = c.args.at in
    let o = c.in-Between.field-0 in
    let left = c.in-Between.left in
    let node = sym c.in-Between.is ∙ c.read-n.ensures in
    operator_summed list nodes at text o left node c.either.result
    (c.either.ensures _ _ _ _ (c.summary_at-a.ensures list text (left_known list nodes at text o left node known))
    (c.summary_at-b.ensures list text (right_known list nodes at text o left node known)))
