-- The first two limbs that differ, from the highest down, decide (`by_limbs`).
use Rattle.std.proofs.Common.{◌∙◌, rules}
use Rattle.number.proofs.Orders.{by_limbs}
use Rattle.number.proofs.magnitude.Magnitude.less.Goals as goal

pub returns : goal.returns
returns c = c.lt.ensures ∙ by_limbs c.args.self c.args.other (search rules) (search rules)
