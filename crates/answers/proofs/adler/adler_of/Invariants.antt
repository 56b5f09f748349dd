-- The two sums of the bytes so far are those that the definition goes on from (`adler_on`), and both stay below 65,521.
use Rattle.std.proofs.Common.{◌≡◌, ◌<◌, drop}
use Rattle.answers.specs.Adler.{adler}
use Rattle.answers.proofs.adler.adler_of.Given as goal

abbrev pub invariant-loop-byte : goal.invariant-loop-byte
invariant-loop-byte l = (l.a < 65521) × (l.b < 65521) × (adler l.a l.b (drop l.byte-index l.s) ≡ adler 1 0 l.s)
