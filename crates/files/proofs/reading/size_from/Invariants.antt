-- The turns bound what is counted: so many more of 65,536 bytes still fit below 2^64.
use Rattle.std.proofs.Common.{◌+◌, ◌*◌, ◌≤◌}
use Rattle.files.proofs.reading.size_from.Given as goal

abbrev pub invariant-loop-turn : goal.invariant-loop-turn
invariant-loop-turn g l = l.size ≤ 65536 + 65536 * l._turn
