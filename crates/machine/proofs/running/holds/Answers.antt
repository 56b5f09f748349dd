-- A comparison gives a bool, if it gives anything: the one that its cell holds.
use Rattle.std.proofs.Common.{◌≡◌, Bool, true, false, ◌&&◌, ap, ◌∙◌}
use mathlib.Core.Option.{some}
use Rattle.paper.specs.Tokens.{Comparison}
use Rattle.paper.specs.Types.{same_ty, suits, when}
use Rattle.paper.specs.Meaning.{Value, truth, is_true, ty_of, holds, compare_value}
use Rattle.paper.specs.Code.{comparison_of}
use Rattle.values.specs.Held.{held, Is}
use Rattle.machine.proofs.running.holds.Goals as goal

is_bool : (c : Comparison) (a b v : Value) (r : Bool) → Is (compare_value c a b) v → r ≡ is_true (some v) → Is (compare_value c a b) (truth r)
is_bool c a b v r = go (same_ty (ty_of a) (ty_of b) && suits c (ty_of a))
  where
    go : (typed : Bool) → Is (when typed (truth (holds c a b))) v → r ≡ is_true (some v) → Is (when typed (truth (holds c a b))) (truth r)
    go true h e = ap truth (e ∙ ap (λ w. is_true (some w)) h)
    go false h e = tt

pub returns : goal.returns
returns c =
    let a = c.args in
    is_bool (comparison_of a.comparison) (held a.low) (held a.top) (held c.compared.result) c.is_true.result c.compared.ensures c.is_true.ensures
