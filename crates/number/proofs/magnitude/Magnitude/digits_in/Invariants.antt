-- Why the bytes are the numeral: before each turn, the digits that are left to write and the bytes from the end on make up the whole numeral
-- (`numeral_with`), and there is room for all that are left. A turn cuts seven off a number of several limbs, which has more (`cut_whole`,
-- `room_for_it`); the digits of the last limb come before them.
use Rattle.std.proofs.Common.{◌≡◌, ◌^◌, ◌<◌, ◌≤◌, length}
use Rattle.paper.specs.Print.{most_digits, numeral_in}
use Rattle.number.specs.Values.{value}
use Rattle.number.specs.Numerals.{numeral_with}
use Rattle.number.proofs.magnitude.Magnitude.digits_in.Given as goal

abbrev pub invariant-loop-left : goal.invariant-loop-left
invariant-loop-left l =
    (l.end ≤ most_digits) × (length l.bytes ≡ most_digits) × (value l.left < l.base ^ l.end) × (numeral_with l.base l.end (value l.left) l.bytes ≡ numeral_in l.base (value l.initial.left))

abbrev pub decreases-loop-left : goal.decreases-loop-left
decreases-loop-left l = l.end
