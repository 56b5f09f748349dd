use Rattle.std.proofs.Common.{sym}
use Rattle.number.proofs.Powers.{mod_wide}
use Rattle.number.proofs.width.low.Goals as goal

pub returns-then-w-ge32 : goal.returns-then-w-ge32
returns-then-w-ge32 c = let a = c.args in sym (mod_wide a.limb 32 a.w c.ranges.limb.fits c.if-w-ge32.true)
