-- Four limbs with what is carried over them, or borrowed.
-- Assumes nothing.
use Rattle.std.proofs.Common.{◌≡◌, ℕ, zero, suc, ◌+◌, ◌-◌, ◌*◌, ◌%◌, ◌^◌, ◌<◌, ◌≤◌, not, eqb, ltb, sym, refl, ap, ◌∙◌, add-zero, mod-eq_of_lt, mul_assoc, add-mul, mul-le-mul, mul-zero, mul-suc, arith, w32, Fits, ltb-true, lt-ltb, eq-eqb, eqb-true}
use native.Mathlib.Nat.{add-mul-mod_self_left}
use lib.Dec.{eqb-suc-zero}
use Rattle.number.specs.declared.digits.Carry.{Carry}
use Rattle.number.specs.declared.magnitude.Magnitude.{Magnitude}
use Rattle.number.specs.declared.width.Borrowed.{Borrowed}
use Rattle.number.specs.Values.{bit, limb, nested, value}
use Rattle.number.proofs.Orders.{agree}

-- a limb times a base, with what came over: below 2^64
pub product : {a b c : ℕ} → Fits w32 a → Fits w32 b → Fits w32 c → a * b + c < 2 ^ 64
product {a} {b} ha hb hc =
    let p : a * b ≤ (2 ^ 32 - 1) * (2 ^ 32 - 1) = mul-le-mul {n₂ = 2 ^ 32 - 1} {m₂ = 2 ^ 32 - 1} (omega arith) (omega arith) in
    omega arith

past_four : (o : ℕ) → 2 ^ 32 * (2 ^ 32 * (2 ^ 32 * (2 ^ 32 * o))) ≡ 2 ^ 128 * o
past_four o =
    let e : 2 ^ 32 * (2 ^ 32 * (2 ^ 32 * o)) ≡ 2 ^ 96 * o = omega arith in
    ap (λ (x : ℕ). 2 ^ 32 * x) e ∙ sym (mul_assoc (2 ^ 32) (2 ^ 96) o)

-- a fifth digit is what four limbs cannot hold
five : (a b c d o : ℕ) → nested a b c (d + 2 ^ 32 * o) ≡ nested a b c d + 2 ^ 128 * o
five a b c d o = go (2 ^ 32 * o) ∙ ap (λ (x : ℕ). nested a b c d + x) (past_four o)
  where
    go : (x : ℕ) → nested a b c (d + x) ≡ nested a b c d + 2 ^ 32 * (2 ^ 32 * (2 ^ 32 * x))
    go x = omega arith

no_more : (M n o t : ℕ) → n + M * o ≡ t → t < M → o ≡ 0
no_more M n zero t e h = refl
no_more M n (suc o) t e h = absurd (omega (arith, mul-suc M o))

-- t is n, and o times M
pub over_none : (M n o t : ℕ) → n < M → n + M * o ≡ t → eqb o 0 ≡ ltb t M
over_none M n o t h e =
    agree (eqb o 0) (ltb t M) (λ z. lt-ltb t M (rw (← e, eqb-true o 0 z, mul-zero, add-zero) h))
    (λ l. eq-eqb o 0 (no_more M n o t e (ltb-true t M l)))

pub rest_of : (M n o t : ℕ) → n < M → n + M * o ≡ t → n ≡ t % M
rest_of M n o t h e = rw (← e, add-mul-mod_self_left) (sym (mod-eq_of_lt h))

scale_step : (n o l k c N M : ℕ) → n + 2 ^ 32 * o ≡ l * k + c → N ≡ M * k + o → n + 2 ^ 32 * N ≡ (l + 2 ^ 32 * M) * k + c
scale_step n o l k c N M e f = rw (f, add-mul l (2 ^ 32 * M) k, mul_assoc (2 ^ 32) M k) (omega arith)

-- four limbs times a base, plus a digit: each limb hands on what is over
pub scaled_four : (m : Magnitude) (k c : ℕ) (r0 r1 r2 r3 : Carry) → r0.limb + 2 ^ 32 * r0.over ≡ limb m 0 * k + c
    → r1.limb + 2 ^ 32 * r1.over ≡ limb m 1 * k + r0.over → r2.limb + 2 ^ 32 * r2.over ≡ limb m 2 * k + r1.over
    → r3.limb + 2 ^ 32 * r3.over ≡ limb m 3 * k + r2.over
    → nested r0.limb r1.limb r2.limb r3.limb + 2 ^ 128 * r3.over ≡ value m * k + c
unfolding value
scaled_four m k c r0 r1 r2 r3 e0 e1 e2 e3 =
    sym (five r0.limb r1.limb r2.limb r3.limb r3.over)
    ∙ scale_step _ _ _ _ _ _ _ e0 (scale_step _ _ _ _ _ _ _ e1 (scale_step _ _ _ _ _ _ _ e2 e3))

-- a limb taken from zero borrows unless it is zero
pub borrows : (l : ℕ) {r : ℕ} → Fits w32 l → Fits w32 r → (r + l) % 2 ^ 32 ≡ 0 → r + l + 0 ≡ 2 ^ 32 * bit (not (eqb l 0))
borrows zero hl hr e = omega arith
borrows (suc l) hl hr e = rw (eqb-suc-zero l) (omega arith)

take_step : (r a k o R A t : ℕ) → r + a + k ≡ 2 ^ 32 * o → R + A + o ≡ t → (r + 2 ^ 32 * R) + (a + 2 ^ 32 * A) + k ≡ 2 ^ 32 * t
take_step r a k o R A t e f = omega arith

-- four limbs taken from zero: each borrows from the next
pub taken_four : (m : Magnitude) (r0 r1 r2 r3 : Borrowed) → r0.limb + limb m 0 + 0 ≡ 2 ^ 32 * bit r0.owed
    → r1.limb + limb m 1 + bit r0.owed ≡ 2 ^ 32 * bit r1.owed → r2.limb + limb m 2 + bit r1.owed ≡ 2 ^ 32 * bit r2.owed
    → r3.limb + limb m 3 + bit r2.owed ≡ 2 ^ 32 * bit r3.owed
    → nested r0.limb r1.limb r2.limb r3.limb + value m ≡ 2 ^ 128 * bit r3.owed
unfolding value
taken_four m r0 r1 r2 r3 e0 e1 e2 e3 =
    sym (add-zero (nested r0.limb r1.limb r2.limb r3.limb + value m))
    ∙ take_step _ _ _ _ _ _ _ e0 (take_step _ _ _ _ _ _ _ e1 (take_step _ _ _ _ _ _ _ e2 e3)) ∙ past_four (bit r3.owed)
