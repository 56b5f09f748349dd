-- Of a limb, which fits 32 bits, as many of the lowest k are zero as are counted at its end (`zeros_tell`).
use Rattle.std.proofs.Common.{ℕ, leb, ap, ◌∙◌}
use lib.Count.{count_trailing_zeros}
use Rattle.number.proofs.Zeros.{zeros_tell}
use Rattle.number.proofs.width.clear.Goals as goal

pub returns : goal.returns
returns c =
    let a = c.args in
    ap (λ (k : ℕ). leb k (count_trailing_zeros 32 a.limb)) c.min.ensures ∙ zeros_tell 32 a.limb a.k c.ranges.limb.fits
