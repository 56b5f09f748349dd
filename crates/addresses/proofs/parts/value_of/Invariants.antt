-- The digits so far count the number that the definition counts of them, and it fits, since there are at most four (`value_on`,
-- `value_fits`).
use Rattle.std.proofs.Common.{◌≡◌, ◌^◌, ◌<◌, map, drop}
use Rattle.paper.specs.Numbers.{digits_after}
use Rattle.paper.specs.Tokens.{digit_of}
use Rattle.paper.specs.Addresses.{value_of}
use Rattle.addresses.proofs.parts.value_of.Given as goal

abbrev pub invariant-loop-byte : goal.invariant-loop-byte
invariant-loop-byte l = (l.value < 272 ^ l.byte-index) × (digits_after l.base l.value (map digit_of (drop l.byte-index l.part)) ≡ value_of l.base l.part)
