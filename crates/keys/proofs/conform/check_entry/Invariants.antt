-- `keys::conform::check_entry` meets its contract. The invariant of its loop: the records of the first k keys pass, so that the
-- tests from key k on decide. A turn settles the test of key k.
use Prim.Native.Nat.{◌-◌}
use mathlib.Core.Path.{◌≡◌}
use Rattle.paper.specs.Answers.{in_turn}
use Rattle.paper.specs.Entry.{rule_test}
use Rattle.keys.specs.Says.{keys_in}
use Rattle.keys.proofs.conform.check_entry.Given as goal

abbrev pub invariant-loop-k : goal.invariant-loop-k
invariant-loop-k l =
    in_turn (rule_test (keys_in l.list) l.entry) l.k (l.n - l.k) ≡ in_turn (rule_test (keys_in l.list) l.entry) 0 l.n
