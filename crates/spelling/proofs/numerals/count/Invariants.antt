-- The number so far fits, and the digits from here on, after it, count what all of them count.
use Rattle.std.proofs.Common.{◌≡◌, ◌^◌, true, ltb, map, drop}
use Rattle.paper.specs.Numbers.{digits_after, in_base}
use Rattle.paper.specs.Tokens.{digit_of}
use Rattle.number.specs.Values.{value}
use Rattle.spelling.proofs.numerals.count.Given as goal

abbrev pub invariant-loop-digit : goal.invariant-loop-digit
invariant-loop-digit l =
    (ltb (value l.number) (2 ^ 128) ≡ true)
    × (digits_after l.base (value l.number) (map digit_of (drop l.digit-index l.digits)) ≡ in_base l.base (map digit_of l.digits))
