-- `drafting::sizes::Size::beside` meets its contract: the sizes of both operands where they stand, and a token more (`operator_sized`).
use native.Mathlib.Omega.{arith}
use mathlib.Core.Path.{◌∙◌}
use Rattle.printing.specs.Writing.{left_between, right_between}
use Rattle.drafting.specs.Sizes.{Stood}
use Rattle.drafting.proofs.Counting.{operator_sized}
use Rattle.drafting.proofs.sizes.Size.beside.Goals as goal

left_stood : (c : goal.After-rung_of) → Stood c.args.self (left_between c.args.o) c.standing-before.result
left_stood c = rw (← c.left_rung.ensures) c.standing-before.ensures

right_stood : (c : goal.After-rung_of) → Stood c.args.right (right_between c.args.o) c.standing-after.result
right_stood c = rw (← c.right_rung.ensures) c.standing-after.ensures

pub returns : goal.returns
returns c =
    let a = c.args in record {
      small = record { tokens = omega (arith, c.capped.ensures); levels = omega (arith, c.capped-2.ensures) };
      sized = operator_sized a.self a.right a.o (left_stood c) (right_stood c) c.capped.ensures
          (c.capped-2.ensures ∙ rw c.max.ensures) c.rung_of.ensures;
    }
