-- The first free part from k on is the first of all.
use mathlib.Core.Path.{◌≡◌}
use Rattle.comparing.specs.Picking.{first_from, is_free}
use Rattle.comparing.proofs.Picked.{first_of}
use Rattle.comparing.proofs.picking.first_free.Given as goal

abbrev pub invariant-loop-k : goal.invariant-loop-k
invariant-loop-k l = first_of (is_free l.used) l.n l.k ≡ first_from (is_free l.used) 0 l.n
