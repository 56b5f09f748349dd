-- `number::Magnitude::minus` meets its contract: each limb is taken from zero with what the limb below it owes (`taken_four`), and the lowest
-- W bits of that are 2^W less the number (`minus_low`).
use Rattle.std.proofs.Common.{◌∙◌, rules}
use Rattle.number.specs.Values.{bit, value}
use Rattle.number.proofs.Carries.{taken_four}
use Rattle.number.proofs.Limbs.{nested_lt}
use Rattle.number.proofs.Powers.{minus_low}
use Rattle.number.proofs.magnitude.Magnitude.minus.Goals as goal

pub returns : goal.returns
unfolding value
returns c =
    let a = c.args in
    let r0 = c.taken-a in
    let r1 = c.taken-b in
    let r2 = c.taken-c in
    let r3 = c.taken-d in
    let taken = taken_four a.self r0.result r1.result r2.result r3.result r0.ensures r1.ensures r2.ensures r3.ensures in
    let small = nested_lt {a = r0.result.limb} {b = r1.result.limb} {c = r2.result.limb} {d = r3.result.limb} (search rules) (search rules) (search rules) (search rules) in
    c.lowest.ensures ∙ minus_low a.w 128 _ (value a.self) (bit r3.result.owed) small taken
