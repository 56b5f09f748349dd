-- What announces the base is written, and then the digits of the number in it.
use Prim.Native.Nat.{ℕ}
use mathlib.Core.Path.{ap}
use Rattle.paper.specs.Print.{numeral_in}
use Rattle.number.specs.Values.{value}
use Rattle.printing.proofs.Rows.{wrote_as, wrote_on}
use Rattle.printing.proofs.leaf.write_number.Goals as goal

pub returns : goal.returns
returns c =
    let number = value c.args.literal.number in
    wrote_on c.write_base-announced.ensures (wrote_as (ap (λ (r : ℕ). numeral_in r number) c.radix.ensures.is) c.write_digits.ensures)
