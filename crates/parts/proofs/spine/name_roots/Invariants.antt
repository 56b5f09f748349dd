-- `parts::name_roots` meets its contract. The invariant of its loop (`Naming`): the parts from index k on have their roots, and the trees of
-- the others, of which there is at least the first, are joined at a node.
use Prim.Native.Nat.{◌<◌}
use mathlib.Core.Path.{◌≡◌}
use lib.ListN.{length}
use Rattle.parts.proofs.Roots.{Naming}
use Rattle.parts.proofs.spine.name_roots.Given as goal

abbrev pub invariant-loop-k : goal.invariant-loop-k
invariant-loop-k l =
    (length l.parts ≡ length l.initial.parts) × Naming l.nodes l.root l.initial.parts l.parts l.n l.at l.k × (0 < l.n → 0 < l.k)
