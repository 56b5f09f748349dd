-- `drafting::contracts::draft` meets its contract. The invariant of its loop: what the bytes from the next one on say of what stands before it is
-- what the whole contract says (`Read`). A turn reads a byte.
use mathlib.Core.Path.{◌≡◌}
use lib.ListN.{length}
use Rattle.drafting.proofs.Walk.{Read}
use Rattle.drafting.proofs.contracts.draft.Given as goal

abbrev pub invariant-loop-i : goal.invariant-loop-i
invariant-loop-i l = (length l.nodes ≡ length l.initial.nodes) × Read l.contract l.table l.names l.nodes l.front l.i
