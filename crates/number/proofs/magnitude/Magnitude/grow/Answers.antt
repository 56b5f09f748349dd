-- Each limb is scaled and takes what the limb below it carries (`scaled_four`).
use Rattle.number.specs.Values.{value}
use Rattle.number.proofs.Carries.{scaled_four}
use Rattle.number.proofs.magnitude.Magnitude.grow.Goals as goal

pub returns : goal.returns
unfolding value
returns c =
    let a = c.args in
    scaled_four a.self a.base a.digit c.scaled-a.result c.scaled-b.result c.scaled-c.result c.scaled-d.result c.scaled-a.ensures c.scaled-b.ensures
    c.scaled-c.ensures c.scaled-d.ensures
