-- What is lent is bytes: the element at each place fits in eight bits, so all do.
use Prim.Native.Nat.{ℕ, suc}
use mathlib.Core.List.{List, [], ◌∷◌}
use lib.ListN.{get_or}
use mir.Syntax.{w8}
use mir.Val.{Fits}
use Rattle.paper.specs.Promised.{Bytes}

pub lent_bytes : (s : List ℕ) → ((i : ℕ) → Fits w8 (get_or s i 0)) → Bytes s
lent_bytes [] each = tt
lent_bytes (b ∷ s) each = ((each 0).fits, lent_bytes s (λ i. each (suc i)))
