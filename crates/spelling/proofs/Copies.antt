-- A copy, byte by byte: the next byte goes after those that stand.
use Prim.Native.Nat.{ℕ, ◌+◌, ◌<◌}
use native.Mathlib.Omega.{arith}
use native.Mathlib.Numerals.{add-one}
use mathlib.Core.Path.{◌≡◌, sym, ap, ◌∙◌}
use mathlib.Core.List.{List, [], ◌∷◌}
use lib.ListN.{length, get_or, set, take}
use lib.Seq.{sets, take-suc, length-take-le}
use Rattle.number.proofs.BigEndian.{sets_append}

pub copied_more : (d s : List ℕ) (at i : ℕ) → i < length s → set (sets d at (take i s)) (at + i) (get_or s i 0) ≡ sets d at (take (i + 1) s)
copied_more d s at i h =
    sym
    (ap (λ n. sets d at (take n s)) (add-one i) ∙ ap (sets d at) (take-suc s i 0 h) ∙ sets_append d at (take i s) (get_or s i 0 ∷ [])
    ∙ ap (λ n. set (sets d at (take i s)) (at + n) (get_or s i 0)) (length-take-le i s (omega arith)))
