-- `blocks::laying::layout` meets its contract. The invariant of its loop: the first k blocks pass, so that the tests from block k on
-- decide. A turn settles the test of block k.
use Prim.Native.Nat.{◌-◌}
use mathlib.Core.Path.{◌≡◌}
use Rattle.paper.specs.Answers.{in_turn}
use Rattle.paper.specs.Blocks.{block_test}
use Rattle.blocks.proofs.laying.layout.Given as goal

abbrev pub invariant-loop-k : goal.invariant-loop-k
invariant-loop-k l = (in_turn (block_test l.keys l.blocks) l.k (l.n - l.k) ≡ in_turn (block_test l.keys l.blocks) 0 l.n)
