-- Room for more digits than a number has changes none of them.
use Rattle.std.proofs.Common.{◌≡◌, ℕ, zero, suc, ◌/◌, ◌%◌, ◌^◌, ◌<◌, ◌≤◌, cond, ltb, List, [], ◌∷◌, ◌++◌, ap, one-mul, pow-suc, arith, lt-ltb}
use native.Mathlib.Nat.{pow-zero}
use Rattle.paper.specs.Print.{digits_in}
use Rattle.number.proofs.Cuts.{cut_less}

-- a number below base^i has at most i digits, whatever the room is
pub enough_digits : (base i most n : ℕ) → 2 ≤ base → 0 < i → i ≤ most → n < base ^ i → digits_in base most n ≡ digits_in base i n
enough_digits base zero most n two some fits small = absurd (omega arith)
enough_digits base (suc i) zero n two some fits small = absurd (omega arith)
enough_digits base (suc zero) (suc most) n two some fits small =
    let below : n < base = rw (pow-suc base 0, pow-zero base, one-mul base) at small in
    rw (lt-ltb n base below)
enough_digits base (suc (suc i)) (suc most) n two some fits small =
    ap (λ (ds : List ℕ). cond (ltb n base) (n ∷ []) (ds ++ (n % base ∷ [])))
    (enough_digits base (suc i) most (n / base) two (omega arith) (omega arith) (cut_less base (suc i) n two small))
