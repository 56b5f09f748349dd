-- The number of a field that a mark names.
use Prim.Native.Nat.{ℕ, zero, suc, ◌<◌}
use native.Mathlib.Omega.{arith}
use mathlib.Core.Path.{◌≡◌, refl}
use Rattle.paper.specs.Code.{field_of, field_no}

pub field_number : (f : ℕ) → f < 5 → field_no (field_of f) ≡ f
field_number zero h = refl
field_number (suc zero) h = refl
field_number (suc (suc zero)) h = refl
field_number (suc (suc (suc zero))) h = refl
field_number (suc (suc (suc (suc zero)))) h = refl
field_number (suc (suc (suc (suc (suc f))))) h = absurd (omega arith)
