-- `resolving::resolve` meets its contract. The invariant of its loop: the nodes are as they were, and those before i are marked
-- (`Resolves`); each turn marks one more (`one_more`).
use Rattle.keys.specs.Says.{keys_in}
use Rattle.resolving.specs.Resolved.{Resolves}
use Rattle.resolving.proofs.resolve.Given as goal

abbrev pub invariant-loop-i : goal.invariant-loop-i
invariant-loop-i l = Resolves (keys_in l.list) l.text l.initial.nodes l.nodes l.i
