-- A number with one bit turned over is another.
use Prim.Native.Nat.{ℕ, zero, suc, ◌+◌, ◌*◌, ◌/◌, ◌%◌, ◌^◌, ◌<◌}
use native.Mathlib.Omega.{arith}
use mathlib.Core.Logic.{◌≢◌}
use mathlib.Core.Path.{◌≡◌, refl, ap, ap₂, ◌∙◌}
use lib.Bits.{differ, bit_xor, xor_step, xor_zero_r}

odd_differs : (x : ℕ) → x < 2 → differ x 1 ≢ x
odd_differs zero h e = omega arith
odd_differs (suc zero) h e = omega arith
odd_differs (suc (suc x)) h e = omega arith

even_same : (x : ℕ) → differ x 0 ≡ x
even_same zero = refl
even_same (suc x) = refl

pub bit_differs : (b a : ℕ) → bit_xor a (2 ^ b) ≢ a
bit_differs zero a e =
    let s : bit_xor a 1 ≡ a / 2 * 2 + differ (a % 2) 1 = xor_step a 1 ∙ ap (λ x. x * 2 + differ (a % 2) 1) (xor_zero_r (a / 2)) in
    odd_differs (a % 2) (omega arith) (omega arith)
bit_differs (suc b) a e =
    let half : 2 ^ suc b / 2 ≡ 2 ^ b = omega arith in
    let even : 2 ^ suc b % 2 ≡ 0 = omega arith in
    let s : bit_xor a (2 ^ suc b) ≡ bit_xor (a / 2) (2 ^ b) * 2 + a % 2 =
    xor_step a (2 ^ suc b) ∙ ap₂ (λ x y. bit_xor (a / 2) x * 2 + differ (a % 2) y) half even
    ∙ ap (λ x. bit_xor (a / 2) (2 ^ b) * 2 + x) (even_same (a % 2))
    in
    bit_differs b (a / 2) (omega arith)
