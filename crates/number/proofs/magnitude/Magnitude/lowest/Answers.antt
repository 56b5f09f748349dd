-- `number::Magnitude::lowest` meets its contract: the lowest W bits, limb by limb, since each limb keeps those of its own bits that are below
-- W (`mod_limbs`).
use Rattle.std.proofs.Common.{rules}
use Rattle.number.specs.Values.{value}
use Rattle.number.proofs.Limbs.{Held}
use Rattle.number.proofs.Powers.{mod_limbs}
use Rattle.number.proofs.magnitude.Magnitude.lowest.Goals as goal

-- the limbs of the number given fit
held : (s : goal.After-low-4) → Held s.args.self
held s = search rules

-- the places: where the bits of each limb are known, from limb 3 down to limb 0, and what was given
pub returns : goal.returns
unfolding value
returns c =
    let a = c.args in
    rw (
      c.low.ensures,
      c.low-2.ensures,
      c.saturating_sub.ensures,
      c.low-3.ensures,
      c.saturating_sub-2.ensures,
      c.low-4.ensures,
      c.saturating_sub-3.ensures,
    ) (mod_limbs a.w a.self (held c))
