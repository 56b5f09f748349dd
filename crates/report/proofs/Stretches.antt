-- Numbers that stand over others. The later ones are those below, so what is stored twice is stored once, and what grows are the numbers on top.
use Prim.Native.Nat.{ℕ, zero, suc, ◌+◌, ◌≤◌}
use native.Mathlib.Omega.{arith}
use mathlib.Core.Path.{◌≡◌, refl, sym, ap, ap₂, ◌∙◌}
use mathlib.Core.List.{List, [], ◌∷◌, ◌++◌}
use lib.ListN.{length, get_or, drop}
use lib.Seq.{drop-append_seam}
use Rattle.paper.specs.Calls.{over}
use Rattle.paper.specs.BlocksRoundTrip.{All}
use Rattle.paper.specs.CountedRight.{sums}
use Rattle.counting.specs.Tallied.{raised}

pub over_over : (xs ys base : List ℕ) → length xs ≡ length ys → over xs (over ys base) ≡ over xs base
over_over xs ys base e =
    ap (λ (l : List ℕ). xs ++ l)
    (ap (λ (k : ℕ). drop k (over ys base)) e ∙ drop-append_seam ys (drop (length ys) base) ∙ ap (λ (k : ℕ). drop k base) (sym e))

pub raised_over : (cs ds base : List ℕ) → length ds ≡ length cs → length cs ≤ length base → raised ds (over cs base) ≡ over (sums cs ds) base
raised_over [] [] base e h = refl
raised_over [] (d ∷ ds) base e h = absurd (omega arith)
raised_over (c ∷ cs) [] base e h = absurd (omega arith)
raised_over (c ∷ cs) (d ∷ ds) [] e h = absurd (omega arith)
raised_over (c ∷ cs) (d ∷ ds) (b ∷ base) e h =
    let sum : d + c ≡ c + d = omega arith in
    ap₂ (λ (x : ℕ) (l : List ℕ). x ∷ l) sum (raised_over cs ds base (omega arith) (omega arith))

pub each_most : (most : ℕ) (ns : List ℕ) → All (λ n. n ≤ most) ns → (k : ℕ) → get_or ns k 0 ≤ most
each_most most [] h k = omega arith
each_most most (n ∷ ns) h zero = h.0
each_most most (n ∷ ns) h (suc k) = each_most most ns h.1 k
