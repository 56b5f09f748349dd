-- The run of bytes above the limit ends where the run from here on ends.
use Rattle.std.proofs.Common.{◌≡◌, ◌+◌, drop}
use lib.Dec.{ltb}
use Rattle.paper.specs.Tokens.{span}
use Rattle.cases.proofs.scan.scan.Given as goal

abbrev pub invariant-loop-i : goal.invariant-loop-i
invariant-loop-i l = l.i + span (ltb l.limit) (drop l.i l.s) ≡ l.at + span (ltb l.limit) (drop l.at l.s)
