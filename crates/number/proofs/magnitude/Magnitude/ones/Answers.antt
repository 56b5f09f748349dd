use Rattle.std.proofs.Common.{◌∙◌}
use Rattle.number.specs.Values.{value}
use Rattle.number.proofs.Powers.{ones_mod}
use Rattle.number.proofs.magnitude.Magnitude.ones.Goals as goal

pub returns : goal.returns
unfolding value
returns c =
    c.lowest.ensures ∙ ones_mod c.args.w 128
