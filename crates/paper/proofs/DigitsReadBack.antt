-- The digits of a number in a base, read back in it, are the number; each is a digit of the base; and they are no more than are needed.
use Prim.Native.Nat.{ℕ, zero, suc, ◌+◌, ◌*◌, ◌/◌, ◌%◌, ◌^◌, ◌≤◌, ◌<◌}
use native.Mathlib.Nat.{div-lt_iff_lt-mul, div-add-mod', pow-suc, pow-zero, mod-lt}
use native.Mathlib.Omega.{arith}
use mathlib.Core.Path.{◌≡◌, refl, ap, subst, ◌∙◌}
use mathlib.Core.Bool.{Bool, true, false, cond}
use mathlib.Core.List.{List, [], ◌∷◌, ◌++◌}
use lib.ListN.{length, length-append}
use lib.Dec.{ltb}
use borrow.Author.Tests.{ltb-true, ltb-false}
use Rattle.paper.specs.Numbers.{digits_after, in_base}
use Rattle.paper.specs.BlocksRoundTrip.{All}
use Rattle.paper.proofs.Basics.{all_append}
use Rattle.paper.specs.Print.{digits_in}

last_digit : (base a : ℕ) (ds : List ℕ) (d : ℕ) → digits_after base a (ds ++ (d ∷ [])) ≡ digits_after base a ds * base + d
last_digit base a [] d = refl
last_digit base a (x ∷ ds) d = last_digit base (a * base + x) ds d

pub digits_back : (base most n : ℕ) → 2 ≤ base → n < base ^ most → in_base base (digits_in base most n) ≡ n
digits_back base zero n two small = omega (arith, pow-zero base)
digits_back base (suc most) n two small =
    let less : n / base < base ^ most = (div-lt_iff_lt-mul {k = base} (omega arith)).1 (subst (λ x. n < x) (pow-suc base most) small) in
    go (ltb n base) (digits_back base most (n / base) two less)
  where
    go : (b : Bool) → in_base base (digits_in base most (n / base)) ≡ n / base
        → in_base base (cond b (n ∷ []) (digits_in base most (n / base) ++ (n % base ∷ []))) ≡ n
    go true h = omega arith
    go false h =
        last_digit base 0 (digits_in base most (n / base)) (n % base) ∙ ap (λ x. x * base + n % base) h ∙ div-add-mod' n base

-- each is a digit of the base
pub digits_below : (base most n : ℕ) → 0 < base → All (λ d. d < base) (digits_in base most n)
digits_below base zero n pos = tt
digits_below base (suc most) n pos = go (ltb n base) refl (digits_below base most (n / base) pos)
  where
    go : (b : Bool) → ltb n base ≡ b → All (λ d. d < base) (digits_in base most (n / base))
        → All (λ d. d < base) (cond b (n ∷ []) (digits_in base most (n / base) ++ (n % base ∷ [])))
    go true e h = (ltb-true n base e, tt)
    go false e h = all_append (λ d. d < base) (digits_in base most (n / base)) (n % base ∷ []) h (mod-lt n pos, tt)

-- a number below base^k has at most k
pub digits_few : (base most k n : ℕ) → 2 ≤ base → 1 ≤ k → n < base ^ k → length (digits_in base most n) ≤ k
digits_few base zero k n two one small = omega arith
digits_few base (suc most) zero n two one small = absurd (omega arith)
digits_few base (suc most) (suc k) n two one small = go (ltb n base) refl (λ p. digits_few base most k (n / base) two p less)
  where
    less : n / base < base ^ k
    less = (div-lt_iff_lt-mul {k = base} (omega arith)).1 (subst (λ x. n < x) (pow-suc base k) small)

    some : (j : ℕ) → k ≡ j → base ≤ n → 1 ≤ k
    some zero e h =
        let one : base ^ k ≡ 1 = ap (λ j. base ^ j) e ∙ pow-zero base in
        let below : n < 1 * base = subst (λ x. n < x) (pow-suc base k ∙ ap (λ x. x * base) one) small in
        absurd (omega arith)
    some (suc j) e h = omega arith

    go : (b : Bool) → ltb n base ≡ b → (1 ≤ k → length (digits_in base most (n / base)) ≤ k)
        → length (cond b (n ∷ []) (digits_in base most (n / base) ++ (n % base ∷ []))) ≤ suc k
    go true e h = omega arith
    go false e h =
        omega (arith, length-append (digits_in base most (n / base)) (n % base ∷ []), h (some k refl (ltb-false n base e)))
