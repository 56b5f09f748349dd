-- A part of a list that goes on to its end is what stands from its start on, and nothing stands after it.
use Prim.Native.Nat.{ℕ, ◌-◌, ◌≤◌}
use mathlib.Core.Path.{◌≡◌, ap, ◌∙◌}
use mathlib.Core.List.{List, ◌++◌, append-nil}
use lib.ListN.{length, take, drop, length-drop, drop_of_length-le}
use lib.Seq.{take_all}
use native.Mathlib.Omega.{arith}
use borrow.Rule.Slice.PartMut.{mid_of, put_mid}

-- such a part after a change of it
pub changed_behind : (change : List ℕ → List ℕ) (a : ℕ) (xs ys : List ℕ) → ys ≡ change (mid_of a (length xs - a) xs)
    → put_mid a (length xs - a) xs ys ≡ take a xs ++ change (drop a xs)
changed_behind change a xs ys e =
    let fits : length (drop a xs) ≤ length xs - a = rw (length-drop a xs) (omega arith) in
    let whole = take_all (length xs - a) (drop a xs) fits in
    let nothing = drop_of_length-le (drop a xs) fits in
    ap (λ (l : List ℕ). take a xs ++ l) (ap (λ (l : List ℕ). ys ++ l) nothing ∙ append-nil ys ∙ e ∙ ap change whole)
