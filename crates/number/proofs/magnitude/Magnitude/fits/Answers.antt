-- A number fits W bits where its lowest W bits are the number itself (`fits_mod`).
use Rattle.std.proofs.Common.{ℕ, eqb, ap, ◌∙◌}
use Rattle.number.specs.Values.{value}
use Rattle.number.proofs.Powers.{fits_mod}
use Rattle.number.proofs.magnitude.Magnitude.fits.Goals as goal

pub returns : goal.returns
returns c =
    let n = value c.args.self in
    c.equal.ensures ∙ ap (λ (k : ℕ). eqb k n) c.lowest.ensures ∙ fits_mod n c.args.w
