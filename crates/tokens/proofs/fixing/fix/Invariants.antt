-- `tokens::fix` meets its contract. The invariant of its loop (`Passing`): what is written, and what the rest of the text is to be written as, are
-- the whole result, and it is never longer than what was read. Each step is right (`step_right`): a piece is copied or written in hex, or the old
-- rules refuse the text. The measure is the number of bytes that are left: each turn takes one at least.
use Prim.Native.Nat.{◌-◌}
use mathlib.Core.Path.{◌≡◌}
use lib.ListN.{length}
use Rattle.tokens.proofs.Rewriting.{Passing}
use Rattle.tokens.proofs.fixing.fix.Given as goal

abbrev pub invariant-loop-at : goal.invariant-loop-at
invariant-loop-at l = (length l.out ≡ length l.initial.out) × Passing l.text l.out l.n l.at l.written

abbrev pub decreases-loop-at : goal.decreases-loop-at
decreases-loop-at l = length l.text - l.at
