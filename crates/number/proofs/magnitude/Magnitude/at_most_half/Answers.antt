-- Below the half, from there up to its double, and past that (`below_half`, `up_to_double`, `past_double`).
use Rattle.std.proofs.Common.{sym, ◌∙◌, ltb-false}
use Rattle.number.specs.Values.{value}
use Rattle.number.proofs.Halves.{past_double}
use Rattle.number.proofs.magnitude.Magnitude.at_most_half.Goals as goal

pub returns-else-fits-2 : goal.returns-else-fits-2
returns-else-fits-2 c =
    c.if-fits-2.false
    ∙ past_double (value c.args.self) c.saturating_sub-k.result c.args.w c.saturating_sub-k.ensures (ltb-false _ _ (sym c.fits-else-fits.ensures ∙ c.if-fits-2.false))
