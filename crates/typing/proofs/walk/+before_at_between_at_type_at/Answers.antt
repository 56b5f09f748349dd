-- The functions of the walk meet their contracts, each by those of the functions that it calls: an
-- operator's operands stand below it (`below`). Each arm answers what `type_of` says of the tree at
-- the node (`leaf_is`, `prefixed_is`, `operated_is`): of a leaf by its marks, else of its operands
-- from the left, and the first refusal ends it. A text is one whose names the marks are.
use Prim.Native.Nat.{◌-◌}
use native.Mathlib.Omega.{arith}
use mathlib.Core.Path.{sym, ◌∙◌}
use Rattle.keys.specs.Says.{keys_in}
use Rattle.trees.specs.declared.node.Node.TheVariants.{Before, Between}
use Rattle.trees.proofs.Walks.{below}
use Rattle.typing.proofs.Walked.{ends, goes_on, marks_at, leaf_is, prefixed_is, operated_is}
use Rattle.typing.proofs.walk.+before_at_between_at_type_at.Goals as goal

pub type_at-returns-in-Without : goal.type_at-returns-in-Without
type_at-returns-in-Without t c text marked =
    let a = c.args in
    c.by_number.ensures ∙ c.leaf_type.ensures ∙ leaf_is (keys_in a.list.now) text a.nodes.now a.at (sym c.in-Without.is ∙ c.read.ensures) marked

pub type_at-before_at-requires : goal.type_at-before_at-requires
type_at-before_at-requires t c = (omega arith, (c.requires, (c.in-Before.field-0, sym c.in-Before.is ∙ c.read.ensures)))

pub type_at-between_at-requires : goal.type_at-between_at-requires
type_at-between_at-requires t c = (omega arith, (c.requires, (c.in-Between.field-0, sym c.in-Between.is ∙ c.read.ensures)))

-- the operand of an operator before it is the node below

pub before_at-overflow_sub-at : goal.before_at-overflow_sub-at
before_at-overflow_sub-at t c =
    let l = below c.args.nodes.now c.args.at (Before c.requires.1.0) c.requires.1.1 in
    omega arith

pub before_at-type_at-operand-requires : goal.before_at-type_at-operand-requires
before_at-type_at-operand-requires t c =
    let l = below c.args.nodes.now c.args.at (Before c.requires.1.0) c.requires.1.1 in
    (omega arith, omega (arith, c.requires.0))

pub before_at-returns-in_default : goal.before_at-returns-in_default
before_at-returns-in_default t c text marked =
    let a = c.args in
    let ks = keys_in a.list.now in
    let here = c.requires.1.1 in
    let l = below a.nodes.now a.at (Before c.requires.1.0) here in
    let told = c.type_at-operand.ensures text (marks_at ks text a.nodes.now a.at (a.at - 1) (omega arith) marked) in
    ends _ told c.in_default.is ∙ prefixed_is ks text a.nodes.now a.at c.requires.1.0 here

pub before_at-returns : goal.before_at-returns
before_at-returns t c text marked =
    let a = c.args in
    let ks = keys_in a.list.now in
    let here = c.requires.1.1 in
    let l = below a.nodes.now a.at (Before c.requires.1.0) here in
    let told = c.type_at-operand.ensures text (marks_at ks text a.nodes.now a.at (a.at - 1) (omega arith) marked) in
    c.operated.ensures text ∙ goes_on _ told c.in-Ok.is ∙ prefixed_is ks text a.nodes.now a.at c.requires.1.0 here

-- the left operand is the node that is named, and the right one the node below

pub between_at-type_at-first-requires : goal.between_at-type_at-first-requires
between_at-type_at-first-requires t c =
    let l = below c.args.nodes.now c.args.at (Between c.requires.1.0 c.args.left) c.requires.1.1 in
    (omega arith, omega (arith, c.requires.0))

pub between_at-returns-in_default : goal.between_at-returns-in_default
between_at-returns-in_default t c text marked =
    let a = c.args in
    let ks = keys_in a.list.now in
    let here = c.requires.1.1 in
    let l = below a.nodes.now a.at (Between c.requires.1.0 a.left) here in
    let told = c.type_at-first.ensures text (marks_at ks text a.nodes.now a.at a.left l marked) in
    ends _ told c.in_default.is ∙ operated_is ks text a.nodes.now a.at c.requires.1.0 a.left here

pub between_at-overflow_sub-at : goal.between_at-overflow_sub-at
between_at-overflow_sub-at t c =
    let l = below c.args.nodes.now c.args.at (Between c.requires.1.0 c.args.left) c.requires.1.1 in
    omega arith

pub between_at-type_at-second-requires : goal.between_at-type_at-second-requires
between_at-type_at-second-requires t c =
    let l = below c.args.nodes.now c.args.at (Between c.requires.1.0 c.args.left) c.requires.1.1 in
    (omega arith, omega (arith, c.requires.0))

pub between_at-returns-in_default-second : goal.between_at-returns-in_default-second
between_at-returns-in_default-second t c text marked =
    let a = c.args in
    let ks = keys_in a.list.now in
    let here = c.requires.1.1 in
    let l = below a.nodes.now a.at (Between c.requires.1.0 a.left) here in
    let told = c.type_at-first.ensures text (marks_at ks text a.nodes.now a.at a.left l marked) in
    let told_right = c.type_at-second.ensures text (marks_at ks text a.nodes.now a.at (a.at - 1) (omega arith) marked) in
    ends _ told_right c.in_default-second.is
    ∙ goes_on _ told c.in-Ok.is
    ∙ operated_is ks text a.nodes.now a.at c.requires.1.0 a.left here

pub between_at-returns : goal.between_at-returns
between_at-returns t c text marked =
    let a = c.args in
    let ks = keys_in a.list.now in
    let here = c.requires.1.1 in
    let l = below a.nodes.now a.at (Between c.requires.1.0 a.left) here in
    let told = c.type_at-first.ensures text (marks_at ks text a.nodes.now a.at a.left l marked) in
    let told_right = c.type_at-second.ensures text (marks_at ks text a.nodes.now a.at (a.at - 1) (omega arith) marked) in
    c.operated.ensures text
    ∙ goes_on _ told_right c.in-Ok-second.is
    ∙ goes_on _ told c.in-Ok.is
    ∙ operated_is ks text a.nodes.now a.at c.requires.1.0 a.left here
