-- A number is at most half of what w bits count where it is below that half, or is the half itself.
-- Assumes nothing.
use Rattle.std.proofs.Common.{◌≡◌, ℕ, ◌+◌, ◌-◌, ◌*◌, ◌%◌, ◌^◌, ◌<◌, ◌≤◌, true, false, eqb, leb, sym, ap, ◌∙◌, mod-eq_of_lt, arith, pow_pos, pow-add, eq-eqb, eqb-true, le-leb, leb-true}
use native.Mathlib.Nat.{mod-eq-sub-mod}
use borrow.Author.Tests.{lt-leb}
use Rattle.number.proofs.Orders.{agree}

-- from the half up to its double, only the half leaves nothing
half_itself : (n h : ℕ) → h ≤ n → n < 2 * h → eqb (n % h) 0 ≡ leb n h
half_itself n h l m =
    let rest : n % h ≡ n - h = mod-eq-sub-mod l ∙ mod-eq_of_lt (omega arith) in
    agree (eqb (n % h) 0) (leb n h)
    (λ e. let none_left : n % h ≡ 0 = eqb-true (n % h) 0 e in le-leb n h (omega arith))
    (λ e. let at_most : n ≤ h = leb-true n h e in eq-eqb (n % h) 0 (omega arith))

doubled : (k : ℕ) → 2 ^ (k + 1) ≡ 2 * 2 ^ k
doubled k = let e = pow-add 2 k 1 in omega (arith, e)

module _ (n k w : ℕ) (e : k ≡ w - 1) where
  abbrev half : ℕ
  half = 2 ^ k

  at_half : leb n half ≡ leb n (2 ^ (w - 1))
  at_half = ap (λ (j : ℕ). leb n (2 ^ j)) e

  pub below_half : n < half → true ≡ leb n (2 ^ (w - 1))
  below_half l = sym (le-leb n half (omega arith)) ∙ at_half

  pub up_to_double : half ≤ n → n < 2 ^ (k + 1) → eqb (n % half) 0 ≡ leb n (2 ^ (w - 1))
  up_to_double l m = half_itself n half l (rw (← doubled k) m) ∙ at_half

  pub past_double : 2 ^ (k + 1) ≤ n → false ≡ leb n (2 ^ (w - 1))
  past_double l = sym (lt-leb n half (let d = doubled k in let p = pow_pos k in omega (arith, d, p, l))) ∙ at_half
