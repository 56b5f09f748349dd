-- The tokens on a tape: one more at the end, and the same tokens on another tape.
use Prim.Native.Nat.{ℕ, zero, suc, ◌+◌, ◌<◌}
use mathlib.Core.Path.{◌≡◌, refl, ap, ap₂, ◌∙◌}
use mathlib.Core.List.{[], ◌∷◌, ◌++◌}
use native.Mathlib.Nat.{add-zero}
use native.Mathlib.Omega.{arith}
use Rattle.tokens.specs.Tape.{Tape, token_on, tokens_on}

pub tape_snoc : (T : Tape) (i n : ℕ) → tokens_on T i (suc n) ≡ tokens_on T i n ++ (token_on T (i + n) ∷ [])
unfolding tokens_on
tape_snoc T i zero = rw (add-zero i)
tape_snoc T i (suc n) =
    let e : i + 1 + n ≡ i + suc n = omega arith in
    ap (λ ts. token_on T i ∷ ts) (tape_snoc T (i + 1) n ∙ ap (λ k. tokens_on T (i + 1) n ++ (token_on T k ∷ [])) e)

pub tape_same : (T U : Tape) (i n : ℕ) → ((k : ℕ) → k < i + n → token_on T k ≡ token_on U k) → tokens_on T i n ≡ tokens_on U i n
unfolding tokens_on
tape_same T U i zero e = refl
tape_same T U i (suc n) e =
    ap₂ (λ t ts. t ∷ ts) (e i (omega arith)) (tape_same T U (i + 1) n (λ k h. e k (omega arith)))
