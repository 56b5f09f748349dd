-- `typing::leaf_held` meets its contract: a number's four limbs are its size (`number_held`), and other leaves spell none (`none_held`).
use mathlib.Core.Path.{◌∙◌}
use Rattle.number.specs.Values.{value}
use Rattle.typing.proofs.Spelled.{number_held}
use Rattle.typing.proofs.bits.leaf_held.Goals as goal

pub returns : goal.returns
unfolding value
returns c text at =
    let a = c.args in
    rw c.in-Number.is (c.fits_in.ensures ∙ number_held a.w _ a.negative)
