-- Why the bytes are the numeral: before each turn, the digits that are left to write and the bytes from i on make up the whole numeral
-- (`numeral_with`), with at most i digits left. A turn writes the last of them before the others; it is the last of all exactly where the
-- number is one digit, or where i is 0 and none is left.
use Rattle.std.proofs.Common.{◌≡◌, length}
use Rattle.number.specs.Numerals.{numeral_with}
use Rattle.number.proofs.numeral.put_limb.Given as goal

abbrev pub invariant-loop-i : goal.invariant-loop-i
invariant-loop-i l =
    (length l.bytes ≡ length l.initial.bytes) × (numeral_with l.base l.i l.left l.bytes ≡ numeral_with l.base l.end l.n l.initial.bytes)
