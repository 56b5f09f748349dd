-- The walk of types that the load check follows.
use Rattle.std.proofs.Common.{◌≡◌, ℕ, ◌≤◌, List, [], ap, arith}
use Rattle.paper.specs.Keys.{Key}
use Rattle.paper.specs.Types.{Ty}
use Rattle.paper.specs.Code.{Action, walk, action_of, type_action}
use Rattle.machine.specs.Following.{types_after}
use Rattle.machine.proofs.Along.{along, action_at, of_blocks}

abbrev pub types_at : List Key → List ℕ → ℕ → ℕ → Action Ty
types_at ks blocks n = action_at (action_of (type_action ks)) blocks n

pub types_after_lem : (ks : List Key) (blocks : List ℕ) (n k : ℕ) → k ≤ n → along (types_at ks blocks n) 0 k [] ≡ types_after ks blocks n k
types_after_lem ks blocks n k l = ap (λ xs. walk 0 xs []) (of_blocks (action_of (type_action ks)) blocks n 0 k n (omega arith) l)
