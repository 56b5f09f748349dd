-- `typing::all_held` meets its contract. The invariant of its loop: what the whole tree spells is what the tree at i spells, under the sign
-- so far (`minus_spelled`, `turned`), and i is no larger than `at`. The measure is i, since an operand stands below its operator (`below`).
use Prim.Native.Nat.{◌-◌, ◌<◌}
use native.Mathlib.Omega.{arith}
use mathlib.Core.Path.{◌≡◌, sym, ◌∙◌, ap}
use mathlib.Core.Bool.{true}
use Rattle.paper.specs.Types.{spelled}
use Rattle.trees.specs.Nodes.{node_at}
use Rattle.trees.specs.Standing.{tree_at}
use Rattle.typing.specs.Says.{is_minus, signed_as}
use Rattle.typing.proofs.Minus.{minus_below, minus_spelled}
use Rattle.typing.proofs.Spelled.{turned}
use Rattle.typing.proofs.bits.all_held.Goals as goal

-- what the test told of the node
told : (c : goal.In-loop-negative) → c.is_minus.result ≡ is_minus (node_at c.args.nodes.now c.loop-negative.i)
told c = c.is_minus.ensures ∙ ap is_minus c.read.ensures

is_minus_lem : (c : goal.In-loop-negative) → is_minus (node_at c.args.nodes.now c.loop-negative.i) ≡ true
is_minus_lem c = sym (told c) ∙ c.loop-negative-test.true

operand_below : (c : goal.In-loop-negative) → 0 < c.loop-negative.i
operand_below c = minus_below c.args.nodes.now c.loop-negative.i (is_minus_lem c)

pub overflow_sub-i : goal.overflow_sub-i
overflow_sub-i c = omega (arith, operand_below c)

pub loop-negative-smaller : goal.loop-negative-smaller
loop-negative-smaller c = omega (arith, operand_below c)

pub loop-negative-preserved : goal.loop-negative-preserved
loop-negative-preserved c =
    let l = c.loop-negative in
    let nodes = c.args.nodes.now in (
      omega (arith, l.invariant.0, operand_below c),
      λ text. l.invariant.1 text ∙ ap (signed_as l.negative) (minus_spelled text nodes l.i (is_minus_lem c)) ∙ turned l.negative (spelled (tree_at text nodes (l.i - 1))),
    )
