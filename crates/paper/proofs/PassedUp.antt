-- What `?` returns of an error that needs no conversion is that error.
use mathlib.Core.Path.{◌≡◌, ap}
use Rattle.std.specs.Prelude.{Result, Ok, Err}
use Rattle.std.specs.Result.{IsErrAnd}

pub passed_up : {T E : Type 0} → (r : Result T E) {v : E} → IsErrAnd r (λ e. e ≡ v) → r ≡ Err v
passed_up (Ok x) h = absurd h
passed_up (Err e) h = ap Err h
