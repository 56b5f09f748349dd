-- `keys::list::check_by` meets its contract. The invariant of its loop: by whatever rule it is that the records are asked, the first k of them pass,
-- so that the tests from record k on decide. A turn settles the test of record k.
use Prim.Native.Nat.{◌-◌}
use mathlib.Core.Path.{◌≡◌}
use Rattle.paper.specs.Answers.{in_turn}
use Rattle.paper.specs.Keys.{RecordRule, record_test}
use Rattle.keys.specs.Says.{Asks}
use Rattle.keys.proofs.list.check_by.Given as goal

abbrev pub invariant-loop-k : goal.invariant-loop-k
invariant-loop-k g l = (rule : RecordRule) → Asks (goal.F-post g l.keeps) rule
    → in_turn (record_test rule l.list) l.k (l.n - l.k) ≡ in_turn (record_test rule l.list) 0 l.n
