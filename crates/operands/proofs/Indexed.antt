-- An index past the key list.
use Prim.Native.Nat.{ℕ, zero, suc, ◌/◌, ◌≤◌}
use native.Mathlib.Omega.{arith}
use mathlib.Core.Path.{◌≡◌, refl}
use mathlib.Core.Bool.{Bool, true, false}
use mathlib.Core.Option.{none}
use mathlib.Core.List.{List, [], ◌∷◌}
use lib.ListN.{length, get_elem?}
use Rattle.paper.specs.Keys.{record_size}
use Rattle.paper.specs.Types.{when}
use Rattle.paper.specs.Meaning.{Value}
use Rattle.keys.specs.Says.{keys_in}
use Rattle.values.specs.Held.{Is}
use Rattle.keys.proofs.Records.{keys_length}

none_past : {A : Type 0} (l : List A) (k : ℕ) → length l ≤ k → get_elem? l k ≡ none
none_past [] k h = refl
none_past (x ∷ l) zero h = absurd (omega arith)
none_past (x ∷ l) (suc k) h = none_past l k (omega arith)

pub no_key : (list : List ℕ) (k : ℕ) → length list / record_size ≤ k → get_elem? (keys_in list) k ≡ none
no_key list k h = none_past (keys_in list) k (omega (arith, keys_length list 0 (length list / record_size)))

-- a value that is there under a condition
pub is_when : (b : Bool) {v w : Value} → v ≡ w → Is (when b w) v
is_when true e = e
is_when false e = tt
