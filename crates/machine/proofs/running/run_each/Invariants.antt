-- The first k entries are told of (`Tabled`), and the array has a place for each value, whatever stands there.
use Rattle.std.proofs.Common.{◌≡◌, length}
use Rattle.paper.specs.Code.{most_held}
use Rattle.keys.specs.Says.{keys_in}
use Rattle.machine.proofs.Tabled.{Tabled}
use Rattle.machine.proofs.running.run_each.Given as goal

abbrev pub invariant-loop-k : goal.invariant-loop-k
invariant-loop-k l =
    record {
      full : length l.stack ≡ most_held;
      told : Tabled (keys_in l.list) l.blocks l.size l.entries l.initial.answers l.k l.answers l.total;
    }
