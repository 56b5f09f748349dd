-- `summarizing::same_named` meets its contract: a named record that differs decides (`same_records`), and else, if marked, the priority.
use native.Mathlib.Omega.{arith}
use Rattle.operands.proofs.Conforming.{entry_size}
use Rattle.summarizing.proofs.same.same_named.Goals as goal

pub read-requires : goal.read-requires
read-requires c = omega (arith, entry_size c.args.list.now c.args.old.now c.requires.conforming)

pub read-requires-else-not-summary : goal.read-requires-else-not-summary
read-requires-else-not-summary c = omega (arith, entry_size c.args.list.now c.args.new.now c.requires.conforming_2)
