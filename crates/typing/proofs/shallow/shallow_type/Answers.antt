-- `typing::shallow_type` meets its contract. The invariant of its loop: where the whole tree has a type, the tree at i has the same
-- (`minus_same`), and i is no larger than `at`. The measure is i, since an operand stands below its operator (`below`).
use Prim.Native.Nat.{◌<◌}
use native.Mathlib.Omega.{arith}
use mathlib.Core.Path.{◌≡◌, sym, ◌∙◌, ap}
use mathlib.Core.Bool.{true}
use Rattle.keys.specs.Says.{keys_in}
use Rattle.trees.specs.Nodes.{node_at}
use Rattle.typing.specs.Says.{is_minus}
use Rattle.typing.proofs.Minus.{minus_below, minus_same}
use Rattle.typing.proofs.shallow.shallow_type.Goals as goal

-- what the test told of the node
told : (c : goal.In-loop-i) → c.is_minus.result ≡ is_minus (node_at c.args.nodes.now c.loop-i.i)
told c = c.is_minus.ensures ∙ ap is_minus c.read.ensures

is_minus_lem : (c : goal.In-loop-i) → is_minus (node_at c.args.nodes.now c.loop-i.i) ≡ true
is_minus_lem c = sym (told c) ∙ c.loop-i-test.true

operand_below : (c : goal.In-loop-i) → 0 < c.loop-i.i
operand_below c = minus_below c.args.nodes.now c.loop-i.i (is_minus_lem c)

pub overflow_sub-i : goal.overflow_sub-i
overflow_sub-i c = omega (arith, operand_below c)

pub loop-i-smaller : goal.loop-i-smaller
loop-i-smaller c = omega (arith, operand_below c)

pub loop-i-preserved : goal.loop-i-preserved
loop-i-preserved c =
    let l = c.loop-i in
    let a = c.args in (
      omega (arith, l.invariant.0, operand_below c),
      λ text b typed. minus_same (keys_in a.list.now) text a.nodes.now l.i b (is_minus_lem c) (l.invariant.1 text b typed),
    )
