-- A number lies inside a mask where "and" with it changes nothing, limb by limb (`and_limbs`).
use Rattle.std.proofs.Common.{ℕ, eqb, sym, ap, ◌∙◌, rules}
use Rattle.number.specs.Values.{value}
use Rattle.number.proofs.Masks.{and_limbs}
use Rattle.number.proofs.magnitude.Magnitude.inside.Goals as goal

pub returns : goal.returns
unfolding value
returns c =
    let a = c.args in
    c.equal.ensures ∙ ap (λ (n : ℕ). eqb n (value a.self)) (sym (and_limbs a.self a.mask (search rules) (search rules)))
