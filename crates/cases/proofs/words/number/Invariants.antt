-- The digits from here on, after the number so far, are the number that all of them are.
use Rattle.std.proofs.Common.{◌≡◌, drop}
use Rattle.cases.specs.Words.{six_digits}
use Rattle.cases.proofs.words.number.Given as goal

abbrev pub invariant-loop-byte : goal.invariant-loop-byte
invariant-loop-byte g l = six_digits l.n (drop l.byte-index l.digits) ≡ six_digits 0 l.digits
