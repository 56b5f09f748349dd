-- Numbers modulo 2^w, for every w once: of a number in 32-bit limbs, of one that fits k bits, and of a negation.
-- Assumes nothing.
use Rattle.std.proofs.Common.{◌≡◌, ℕ, zero, suc, ◌+◌, ◌-◌, ◌*◌, ◌/◌, ◌%◌, ◌^◌, ◌<◌, ◌≤◌, min, eqb, ltb, ℤ, pos, negsuc, neg_ℤ, sym, refl, ap, ◌∙◌, lt_of_lt_of_le, mod-lt, mod-eq_of_lt, one-mul, mul_right_comm, arith, lit<, pow_pos, pow_mono, pow-add, shl_exact, ltb-true, lt-ltb, eq-eqb, eqb-true}
use native.Mathlib.Nat.{mul-mod_left, add-mul-mod_self_right, sub-zero, min-eq_left, min-eq_right, zero-mod, mod-one, mod_self, mod-mod, mod-eq-sub-mod, add-mod}
use native.Mathlib.Decide.{dec_le}
use lib.Arith.{digits_mod}
use lib.Pow.{mod-pow-add, ones_split, ones_lt}
use Rattle.paper.specs.Numbers.{modulo}
use Rattle.number.specs.declared.magnitude.Magnitude.{Magnitude}
use Rattle.number.specs.Values.{limb, nested, value}
use Rattle.number.proofs.Limbs.{Held}
use Rattle.number.proofs.Orders.{agree}

-- what fits k bits has no others to lose
pub mod_wide : (n k w : ℕ) → n < 2 ^ k → k ≤ w → n % 2 ^ w ≡ n
mod_wide n k w h p = mod-eq_of_lt (lt_of_lt_of_le h (pow_mono p))

pub mod_min : (n k w : ℕ) → n < 2 ^ k → n % 2 ^ w ≡ n % 2 ^ min w k
mod_min n k w h = go (dec_le w k)
  where
    go : Dec (w ≤ k) → n % 2 ^ w ≡ n % 2 ^ min w k
    go (yes p) = rw (min-eq_left p)
    go (no p) =
        let q : k ≤ w = omega arith in
        rw (min-eq_right q, mod-eq_of_lt h) (mod_wide n k w h q)

-- a number keeps its value where it is below 2^w
pub fits_mod : (n w : ℕ) → eqb (n % 2 ^ w) n ≡ ltb n (2 ^ w)
fits_mod n w =
    agree (eqb (n % 2 ^ w) n) (ltb n (2 ^ w))
    (λ e. lt-ltb n (2 ^ w) (rw (eqb-true (n % 2 ^ w) n e) at (mod-lt n (pow_pos w))))
    (λ e. eq-eqb (n % 2 ^ w) n (mod-eq_of_lt (ltb-true n (2 ^ w) e)))

as_multiple : (k w m : ℕ) → w ≤ k → 2 ^ k * m ≡ (2 ^ (k - w) * m) * 2 ^ w
as_multiple k w m h =
    let s : k ≡ (k - w) + w = omega arith in
    ap (λ (j : ℕ). 2 ^ j * m) s ∙ ap (λ (j : ℕ). j * m) (pow-add 2 (k - w) w) ∙ mul_right_comm (2 ^ (k - w)) (2 ^ w) m

-- the lowest w bits of a number whose lowest limb is a
pub mod_digit : (w a m : ℕ) → a < 2 ^ 32 → (a + 2 ^ 32 * m) % 2 ^ w ≡ a % 2 ^ w + 2 ^ 32 * (m % 2 ^ (w - 32))
mod_digit w a m h = go (dec_le w 32)
  where
    go : Dec (w ≤ 32) → (a + 2 ^ 32 * m) % 2 ^ w ≡ a % 2 ^ w + 2 ^ 32 * (m % 2 ^ (w - 32))
    go (yes p) =
        let e : w - 32 ≡ 0 = omega arith in
        rw (as_multiple 32 w m p, add-mul-mod_self_right, e, mod-one) (omega arith)
    go (no p) =
        let s : w ≡ (w - 32) + 32 = omega arith in
        let q : (a + 2 ^ 32 * m) / 2 ^ 32 ≡ m = omega arith in
        let r : (a + 2 ^ 32 * m) % 2 ^ 32 ≡ a = omega arith in
        ap (λ (k : ℕ). (a + 2 ^ 32 * m) % 2 ^ k) s ∙ mod-pow-add (a + 2 ^ 32 * m) (w - 32) 32
        ∙ rw (q, r, mod_wide a 32 w h (omega arith)) (omega arith)

pub mod_limbs : (w : ℕ) (m : Magnitude) → Held m
    → nested (limb m 0 % 2 ^ w) (limb m 1 % 2 ^ (w - 32)) (limb m 2 % 2 ^ (w - 64)) (limb m 3 % 2 ^ (w - 96)) ≡ value m % 2 ^ w
unfolding value
mod_limbs w m h =
    let s : w - 32 - 32 ≡ w - 64 = omega arith in
    let t : w - 64 - 32 ≡ w - 96 = omega arith in
    rw (mod_digit w (limb m 0) _ h.l0.fits, mod_digit (w - 32) (limb m 1) _ h.l1.fits, s, mod_digit (w - 64) (limb m 2) _ h.l2.fits, t)

-- one bit, shifted within k bits
pub one_shifted : (w k : ℕ) → w < k → (1 * 2 ^ w) % 2 ^ k ≡ 2 ^ w
one_shifted w k h = shl_exact 1 w k (lit< tt) (omega arith) ∙ one-mul (2 ^ w)

-- the lowest w of k ones
pub ones_mod : (w k : ℕ) → (2 ^ k - 1) % 2 ^ w ≡ 2 ^ min w k - 1
ones_mod w k =
    let m = min w k in
    let s : k ≡ (k - m) + m = omega arith in
    mod_min (2 ^ k - 1) k w (ones_lt k) ∙ ap (λ (j : ℕ). (2 ^ j - 1) % 2 ^ m) s
    ∙ ap (λ (n : ℕ). n % 2 ^ m) (ones_split (k - m) m) ∙ digits_mod (2 ^ (k - m) - 1) (ones_lt m)

-- what a number lacks to a multiple of M is its negation modulo M
pub minus_of : {M : ℕ} (r n : ℕ) → 0 < M → (r + n) % M ≡ 0 → r % M ≡ (M - n % M) % M
minus_of {M} r n h e = go (dec_le M (r % M + n % M))
  where
    x : r % M < M
    x = mod-lt r h

    y : n % M < M
    y = mod-lt n h

    f : (r % M + n % M) % M ≡ 0
    f = sym (add-mod r n M) ∙ e

    go : Dec (M ≤ r % M + n % M) → r % M ≡ (M - n % M) % M
    go (yes p) =
        let d : (r % M + n % M) - M ≡ 0 = sym (mod-eq_of_lt (omega (arith, x, y))) ∙ sym (mod-eq-sub-mod p) ∙ f in
        let s : M - n % M ≡ r % M = omega arith in
        rw (s, mod-mod)
    go (no p) =
        let d : r % M + n % M ≡ 0 = sym (mod-eq_of_lt (omega arith)) ∙ f in
        let s : M - n % M ≡ M = omega arith in
        rw (s, mod_self) (omega arith)

pub modulo_neg : (n M : ℕ) → modulo (neg_ℤ (pos n)) M ≡ (M - n % M) % M
modulo_neg zero M = rw (zero-mod, sub-zero, mod_self)
modulo_neg (suc n) M = refl

-- the same in k bits, of which w are kept
pub minus_low : (w k r n o : ℕ) → r < 2 ^ k → r + n ≡ 2 ^ k * o → r % 2 ^ w ≡ modulo (neg_ℤ (pos n)) (2 ^ min w k)
minus_low w k r n o h e =
    let m = min w k in
    let s : r + n ≡ (2 ^ (k - m) * o) * 2 ^ m = e ∙ as_multiple k m o (omega arith) in
    mod_min r k w h ∙ minus_of r n (pow_pos m) (rw s (mul-mod_left (2 ^ (k - m) * o) (2 ^ m))) ∙ sym (modulo_neg n (2 ^ m))

-- a width within k bits
pub power_within : (w k : ℕ) → w ≤ k → 2 ^ min w k ≡ 2 ^ w
power_within w k h = rw (min-eq_left h)

pub modulo_below : (n M : ℕ) → n < M → modulo (pos n) M ≡ n
modulo_below n M h = mod-eq_of_lt h

pub modulo_lt : (z : ℤ) (M : ℕ) → 0 < M → modulo z M < M
modulo_lt (pos n) M h = mod-lt n h
modulo_lt (negsuc n) M h = mod-lt (M - suc n % M) h

pub modulo_again : (z : ℤ) (M : ℕ) → 0 < M → modulo (pos (modulo z M)) M ≡ modulo z M
modulo_again z M h = mod-eq_of_lt (modulo_lt z M h)
