-- Below zero, `minus` makes the remainder of the size taken from zero; else the remainder is the
-- lowest W bits of the size, and a W past 128 keeps no more of them than 128 does, since the size is below 2^128 (`mod_min`).
use Rattle.std.proofs.Common.{◌∙◌, rules}
use Rattle.number.specs.Values.{value}
use Rattle.number.proofs.Limbs.{value_lt}
use Rattle.number.proofs.Powers.{mod_min}
use Rattle.number.proofs.whole.Whole.reduced.Goals as goal

pub returns-else-self : goal.returns-else-self
returns-else-self c =
    let a = c.args in
    let m = a.self.size in
    rw c.if-self.false (c.lowest.ensures ∙ mod_min (value m) 128 a.w (value_lt m (search rules)))
