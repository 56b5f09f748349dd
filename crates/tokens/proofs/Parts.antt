-- A part of a list, as the code takes it and as the definitions tell it.
use Prim.Native.Nat.{ℕ, zero, suc, ◌+◌, ◌-◌, ◌≤◌, ◌<◌}
use mathlib.Core.Path.{◌≡◌, ap, sym, ◌∙◌}
use mathlib.Core.List.{List, [], ◌∷◌}
use native.Mathlib.Nat.{zero-add, suc-add}
use native.Mathlib.Omega.{arith}
use lib.ListN.{length, get_or, take, drop}
use lib.Seq.{slice, take-nil}
use Rattle.spelling.proofs.Spans.{cut}

slice-more : (from n : ℕ) (l : List ℕ) → slice from (from + n) l ≡ take n (drop from l)
slice-more zero n l = rw zero-add
slice-more (suc from) n [] = rw (suc-add, take-nil)
slice-more (suc from) n (x ∷ l) = rw suc-add (slice-more from n l)

pub part_slice : (from to : ℕ) (l : List ℕ) → from ≤ to → take (to - from) (drop from l) ≡ slice from to l
part_slice from to l h =
    let e : from + (to - from) ≡ to = omega arith in
    sym (slice-more from (to - from) l) ∙ ap (λ t. slice from t l) e

-- a part is its first byte and what follows
pub part_first : (s : List ℕ) (at n end : ℕ) → at < length s → end ≡ at + 1 + n
    → take (end - at) (drop at s) ≡ get_or s at 0 ∷ take n (drop (at + 1) s)
part_first s at n end h e =
    let m : end - at ≡ suc n = omega arith in
    rw (m, cut s at h)
