-- Why the bytes are the numeral: before each turn, the digits that are left to write and the bytes from i on make up the whole numeral
-- (`numeral_with`), with at most i digits left. A turn writes the last of them before the others; it is the last of all exactly where the
-- number is one digit, or where i is 0 and none is left.
use Rattle.std.proofs.Common.{◌<◌, ◌≤◌, length, ◌∙◌, arith, lt-ltb}
use Rattle.number.proofs.DigitPlaces.{digit_last}
use Rattle.number.proofs.numeral.put_limb.Goals as goal

some_left : (d : goal.Then-left-base) → 0 < d.loop-i.i
some_left d = omega (arith, d.loop-i-test.true)

inside : (l : goal.Then-left-base) → l.loop-i.i ≤ length l.loop-i.bytes
inside l = omega (arith, l.loop-i.auto.i, l.loop-i.invariant.0, l.requires.end_in_bounds)

pub returns-then-left-base : goal.returns-then-left-base
returns-then-left-base c =
    record {
      inside = omega (arith, c.loop-i.auto.i);
      bytes =
          rw c.digit_byte.ensures
          (digit_last c.args.base c.loop-i.left c.loop-i.bytes c.loop-i.i (some_left c) (inside c) (lt-ltb _ _ c.if-left-base.true) ∙ c.loop-i.invariant.1);
    }
