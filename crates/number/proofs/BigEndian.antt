-- Numbers as bytes, the highest first: read, and written.
-- Assumes nothing.
use Rattle.std.proofs.Common.{◌≡◌, ℕ, zero, suc, ◌+◌, ◌-◌, ◌*◌, ◌/◌, ◌%◌, ◌^◌, ◌<◌, ◌≤◌, List, [], ◌∷◌, ◌++◌, length, set, take, drop, append_assoc, sym, refl, ap, ◌∙◌, ap₂, add-zero, add_assoc, add-suc, mod-eq_of_lt, mul_assoc, add_comm, suc-add, pow-suc, zero-add, mul-one, add-one, one-add, arith, lit<, length-set, get_or-set_other, get_or-set_same, pow-add}
use native.Mathlib.Nat.{pow-succ', div-div-eq-div-mul, mod-one, one-le-pow}
use lib.Arith.{mod-mul}
use borrow.Rule.Slice.PartMut.{put_mid}
use lib.Seq.{sets, drop-drop}
use Rattle.std.proofs.lemmas.List.Edits.{sets-eq}
use Rattle.std.specs.Int.{to_be_bytes, w32}
use Rattle.paper.specs.Numbers.{byte_at, number_at, big_endian}
use Rattle.number.specs.declared.magnitude.Magnitude.{Magnitude}
use Rattle.number.specs.Values.{limb, nested, value}
use Rattle.number.proofs.Limbs.{Held, value_lt}

pub number_more : (s : List ℕ) (at m n : ℕ) → number_at s at (m + n) ≡ number_at s at m * 256 ^ n + number_at s (at + m) n
number_more s at m zero = rw (add-zero m, mul-one, add-zero)
number_more s at m (suc n) =
    rw (add-suc m n, number_more s at m n, add_assoc at m n, pow-suc 256 n, ← mul_assoc (number_at s at m) (256 ^ n) 256) (omega arith)

words_join : (a b c d x y z : ℕ) → x ≡ d * 2 ^ 32 + c → y ≡ x * 2 ^ 32 + b → z ≡ y * 2 ^ 32 + a → nested a b c d ≡ z
words_join a b c d x y z e f g = omega arith

pub four_words : (s : List ℕ) (at : ℕ)
    → nested (number_at s (at + 12) 4) (number_at s (at + 8) 4) (number_at s (at + 4) 4) (number_at s at 4) ≡ number_at s at 16
four_words s at =
    words_join (number_at s (at + 12) 4) (number_at s (at + 8) 4) (number_at s (at + 4) 4) (number_at s at 4) (number_at s at 8) (number_at s at 12)
    (number_at s at 16) (number_more s at 4 4) (number_more s at 8 4) (number_more s at 12 4)

pub length_bytes : (k n : ℕ) → length (big_endian k n) ≡ k
length_bytes zero n = refl
length_bytes (suc k) n = ap suc (length_bytes k n)

past_limb : (j a m : ℕ) → a < 2 ^ 32 → (a + 2 ^ 32 * m) / 256 ^ (j + 4) ≡ m / 256 ^ j
past_limb j a m h =
    let n = a + 2 ^ 32 * m in
    let q : n / 256 ^ 4 ≡ m = omega arith in
    rw (add_comm j 4, pow-add 256 4 j, ← div-div-eq-div-mul n (256 ^ 4) (256 ^ j), q)

-- the bytes of a number whose lowest limb is a
bytes_digit : (j a m : ℕ) → a < 2 ^ 32 → big_endian (j + 4) (a + 2 ^ 32 * m) ≡ big_endian j m ++ big_endian 4 a
bytes_digit zero a m h =
    let n = a + 2 ^ 32 * m in
    let b3 : n / 256 ^ 3 % 256 ≡ a / 256 ^ 3 % 256 = omega arith in
    let b2 : n / 256 ^ 2 % 256 ≡ a / 256 ^ 2 % 256 = omega arith in
    let b1 : n / 256 ^ 1 % 256 ≡ a / 256 ^ 1 % 256 = omega arith in
    let b0 : n / 256 ^ 0 % 256 ≡ a / 256 ^ 0 % 256 = omega arith in
    rw (b3, b2, b1, b0)
bytes_digit (suc j) a m h = rw (suc-add j 4, past_limb j a m h, bytes_digit j a m h)

pub sets_append : (l : List ℕ) (i : ℕ) (xs ys : List ℕ) → sets l i (xs ++ ys) ≡ sets (sets l i xs) (i + length xs) ys
sets_append l i [] ys = rw (add-zero i)
sets_append l i (x ∷ xs) ys = sets_append (set l i x) (suc i) xs ys ∙ rw (add-suc i, suc-add i)

-- four bytes as the library has them
pub four_bytes : (n : ℕ) → to_be_bytes w32 n ≡ big_endian 4 n
four_bytes n =
    let e : n % 256 ≡ n / 256 ^ 0 % 256 = omega arith in
    ap (λ (b : ℕ). n / 256 ^ 3 % 256 ∷ (n / 256 ^ 2 % 256 ∷ (n / 256 ^ 1 % 256 ∷ (b ∷ [])))) e

-- a copy: what stands before it, the bytes, and what stands after them
pub copied : (d s : List ℕ) (at : ℕ) → at + length s ≤ length d → put_mid at (at + length s - at) d s ≡ sets d at s
copied d s at h =
    let n : at + length s - at ≡ length s = omega arith in
    rw (sets-eq s d at h, append_assoc) (ap (λ rest. take at d ++ (s ++ rest)) (ap (λ k. drop k (drop at d)) n ∙ drop-drop (length s) at d))

put_digit : (l : List ℕ) (at j a m : ℕ) → a < 2 ^ 32
    → sets (sets l at (big_endian j m)) (at + j) (big_endian 4 a) ≡ sets l at (big_endian (j + 4) (a + 2 ^ 32 * m))
put_digit l at j a m h =
    rw (bytes_digit j a m h, sets_append l at (big_endian j m) (big_endian 4 a), length_bytes j m)

pub four_put : (l : List ℕ) (at : ℕ) (m : Magnitude) → Held m
    → sets (sets (sets (sets l at (big_endian 4 (limb m 3))) (at + 4) (big_endian 4 (limb m 2))) (at + 8) (big_endian 4 (limb m 1))) (at + 12) (big_endian 4 (limb m 0))
    ≡ sets l at (big_endian 16 (value m))
unfolding value
four_put l at m h =
    ap (λ (t : List ℕ). sets (sets t (at + 8) (big_endian 4 (limb m 1))) (at + 12) (big_endian 4 (limb m 0))) (put_digit l at 4 (limb m 2) (limb m 3) h.l2.fits)
    ∙ ap (λ (t : List ℕ). sets t (at + 12) (big_endian 4 (limb m 0))) (put_digit l at 8 (limb m 1) _ h.l1.fits)
    ∙ put_digit l at 12 (limb m 0) _ h.l0.fits

-- a store leaves what stands before it
pub sets_before : (l : List ℕ) (i j : ℕ) (vs : List ℕ) → i < j → byte_at (sets l j vs) i ≡ byte_at l i
sets_before l i j [] h = refl
sets_before l i j (v ∷ vs) h = sets_before (set l j v) i (suc j) vs (omega arith) ∙ get_or-set_other l j i v 0 (λ e. omega arith)

-- and what stands after
pub sets_after : (l : List ℕ) (i j : ℕ) (vs : List ℕ) → j + length vs ≤ i → byte_at (sets l j vs) i ≡ byte_at l i
sets_after l i j [] h = refl
sets_after l i j (v ∷ vs) h = sets_after (set l j v) i (suc j) vs (omega arith) ∙ get_or-set_other l j i v 0 (λ e. omega arith)

first_kept : (l : List ℕ) (at x : ℕ) (vs : List ℕ) → at < length l → byte_at (sets l at (x ∷ vs)) at ≡ x
first_kept l at x vs h = sets_before (set l at x) at (suc at) vs (omega arith) ∙ get_or-set_same l at x 0 h

-- what is written is read again
pub number_written : (l : List ℕ) (at k n : ℕ) → at + k ≤ length l → number_at (sets l at (big_endian k n)) at k ≡ n % 256 ^ k
number_written l at zero n h = sym (mod-one n)
number_written l at (suc k) n h =
    let x = n / 256 ^ k % 256 in
    let s = sets l at (big_endian (suc k) n) in
    let r : number_at s (suc at) k ≡ n % 256 ^ k = number_written (set l at x) (suc at) k n (simp length-set (omega arith)) in
    ap (number_at s at) (sym (one-add k)) ∙ number_more s at 1 k
    ∙ rw (add-zero at, zero-add, first_kept l at x (big_endian k n) (omega arith), add-one at, r, pow-succ' 256 k)
    (sym (mod-mul n {m = 256} {c = 256 ^ k} (lit< tt) (one-le-pow k 256 (lit< tt))))

pub value_written : (l : List ℕ) (at : ℕ) (m : Magnitude) → Held m → at + 16 ≤ length l
    → number_at (sets l at (big_endian 16 (value m))) at 16 ≡ value m
value_written l at m h f = number_written l at 16 (value m) f ∙ mod-eq_of_lt (value_lt m h)

-- a number is that of its bytes alone
pub number_same : (s t : List ℕ) (at n : ℕ) → ((i : ℕ) → i < n → byte_at s (at + i) ≡ byte_at t (at + i)) → number_at s at n ≡ number_at t at n
number_same s t at zero f = refl
number_same s t at (suc n) f =
    ap₂ (λ (m b : ℕ). m * 256 + b) (number_same s t at n (λ i h. f i (omega arith))) (f n (omega arith))
