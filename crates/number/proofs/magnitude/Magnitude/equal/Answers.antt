-- Two numbers are equal where their limbs are (`same_limbs`).
use Rattle.std.proofs.Common.{◌∙◌, rules}
use Rattle.number.proofs.Orders.{same_limbs}
use Rattle.number.proofs.magnitude.Magnitude.equal.Goals as goal

pub returns : goal.returns
returns c = c.eq.ensures ∙ same_limbs c.args.self c.args.other (search rules) (search rules)
