-- Digits in a base: how they go on, modulo a number, and how large they get.
use Prim.Native.Nat.{ℕ, zero, suc, ◌+◌, ◌*◌, ◌/◌, ◌%◌, ◌^◌, ◌≤◌, ◌<◌}
use mathlib.Core.Path.{◌≡◌, refl, sym, ap, ◌∙◌}
use mathlib.Core.Bool.{Bool, true, false, not, ◌&&◌, ◌||◌}
use mathlib.Core.List.{List, [], ◌∷◌, ◌++◌, map}
use native.Mathlib.Nat.{mod-add-div, mod-mod, add-mul-mod_self_left, pow-zero, pow-succ', pow-le-pow_right, mul_assoc, mul-le-mul_left, mul-le-mul_right, add-mul, mul-one, zero-add, zero-mul, one-mul}
use native.Mathlib.Numerals.{add-one}
use native.Mathlib.Omega.{arith}
use borrow.Author.Tests.{eqb-true, eq-eqb, ltb-true, leb-true}
use lib.ListN.{length, length-map, replicate}
use lib.Dec.{eqb, ltb, leb, lit<}
use Rattle.paper.specs.Numbers.{digits_after, in_base}
use Rattle.paper.specs.Tokens.{is, span, starts, digit_of}
use Rattle.paper.specs.Addresses.{Scheme, ipv4, ipv6, mac, all_digits, value_of, every}
use Rattle.spelling.proofs.Tests.{and_both}
use Rattle.addresses.specs.Reads.{is_part, base_of, scale_of, numbers}

module _ (base M : ℕ) where
  reduced : (n d : ℕ) → (n * base + d) % M ≡ (n % M * base + d) % M
  reduced n d =
      let r = n % M in
      let q = n / M in
      let e : n * base ≡ r * base + M * (q * base) =
      ap (λ (x : ℕ). x * base) (sym (mod-add-div n M)) ∙ add-mul r (M * q) base ∙ ap (λ (x : ℕ). r * base + x) (mul_assoc M q base)
      in
      let f : n * base + d ≡ r * base + d + M * (q * base) = omega arith in
      ap (λ (x : ℕ). x % M) f ∙ add-mul-mod_self_left (r * base + d) M (q * base)

  pub digit_mod : (n m d : ℕ) → n % M ≡ m % M → (n * base + d) % M ≡ (m * base + d) % M
  digit_mod n m d e = reduced n d ∙ ap (λ (x : ℕ). (x * base + d) % M) e ∙ sym (reduced m d)

  pub after_mod : (ds : List ℕ) (n m : ℕ) → n % M ≡ m % M → digits_after base n ds % M ≡ digits_after base m ds % M
  after_mod [] n m e = e
  after_mod (d ∷ ds) n m e = after_mod ds (n * base + d) (m * base + d) (digit_mod n m d e)

-- zeros, the last of them after the others
zeros_end : (base n i : ℕ) → digits_after base n (replicate (suc i) 0) ≡ digits_after base n (replicate i 0) * base + 0
zeros_end base n zero = refl
zeros_end base n (suc i) = zeros_end base (n * base + 0) i

pub zero_more : (base M n m k i : ℕ) → m ≡ digits_after base n (replicate i 0) % M → k ≡ (m * base + 0) % M
    → k ≡ digits_after base n (replicate (i + 1) 0) % M
zero_more base M n m k i e f =
    f ∙ digit_mod base M m (digits_after base n (replicate i 0)) 0 (ap (λ (x : ℕ). x % M) e ∙ mod-mod _ _)
    ∙ sym (ap (λ (j : ℕ). digits_after base n (replicate j 0) % M) (add-one i) ∙ ap (λ (x : ℕ). x % M) (zeros_end base n i))

pub after_append : (base : ℕ) (xs ys : List ℕ) (n : ℕ) → digits_after base n (xs ++ ys) ≡ digits_after base (digits_after base n xs) ys
after_append base [] ys n = refl
after_append base (x ∷ xs) ys n = after_append base xs ys (n * base + x)

-- all digits below the base
abbrev pub Below : ℕ → List ℕ → Type 0
Below base [] = Unit {0}
Below base (d ∷ ds) = (d < base) × Below base ds

pub after_lt : (base : ℕ) (ds : List ℕ) (n : ℕ) → Below base ds → digits_after base n ds < (n + 1) * base ^ length ds
after_lt base [] n h = rw (pow-zero, mul-one) (omega arith)
after_lt base (d ∷ ds) n h =
    let e : (n + 1) * base ≡ n * base + 1 * base = add-mul n 1 base in
    let l : n * base + d + 1 ≤ (n + 1) * base = omega (arith, h.0, zero-mul base) in
    let m : (n * base + d + 1) * base ^ length ds ≤ (n + 1) * base * base ^ length ds = mul-le-mul_right (base ^ length ds) l in
    let i : digits_after base (n * base + d) ds < (n * base + d + 1) * base ^ length ds = after_lt base ds (n * base + d) h.1 in
    rw (pow-succ', ← mul_assoc) (omega arith)

-- all bytes pass a test where the first does and all others do
all_first : (p : ℕ → Bool) (b : ℕ) (s : List ℕ) → eqb (span p (b ∷ s)) (length (b ∷ s)) ≡ true
    → (p b ≡ true) × (eqb (span p s) (length s) ≡ true)
all_first p b s e = go (p b) refl
  where
    go : (t : Bool) → p b ≡ t → (p b ≡ true) × (eqb (span p s) (length s) ≡ true)
    go true h =
        let f : suc (span p s) ≡ suc (length s) = eqb-true (suc (span p s)) (suc (length s)) (rw h at e) in
        (h, eq-eqb (span p s) (length s) (omega arith))
    go false h = let f : 0 ≡ suc (length s) = eqb-true 0 (suc (length s)) (rw h at e) in absurd (omega arith)

digits_below : (base : ℕ) (s : List ℕ) → all_digits base s ≡ true → Below base (map digit_of s)
digits_below base [] e = tt
digits_below base (b ∷ s) e =
    let f = all_first (λ c. ltb (digit_of c) base) b s e in
    (ltb-true (digit_of b) base f.0, digits_below base s f.1)

value_lt : (base : ℕ) (s : List ℕ) → all_digits base s ≡ true → value_of base s < base ^ length s
value_lt base s e =
    let l = after_lt base (map digit_of s) 0 (digits_below base s e) in
    rw (zero-add, one-mul, length-map) at l

between : (most : ℕ) (p : List ℕ) → (leb 1 (length p) && leb (length p) most) ≡ true → most ≤ 4 → (1 ≤ length p) × (length p ≤ 4)
between most p e h =
    let f = and_both (leb 1 (length p)) (leb (length p) most) e in
    let l = leb-true (length p) most f.1 in
    (leb-true 1 (length p) f.0, omega arith)

-- a good part has a byte, and four at most
pub part_size : (s : Scheme) (p : List ℕ) → is_part s p ≡ true → (1 ≤ length p) × (length p ≤ 4)
part_size ipv4 p e =
    let f = and_both (leb 1 (length p) && leb (length p) 3 && all_digits 10 p && (eqb (length p) 1 || not (starts (is "0") p))) (leb (value_of 10 p) 255) e in
    let g = and_both (leb 1 (length p) && leb (length p) 3 && all_digits 10 p) (eqb (length p) 1 || not (starts (is "0") p)) f.0 in
    let h = and_both (leb 1 (length p) && leb (length p) 3) (all_digits 10 p) g.0 in
    between 3 p h.0 (omega arith)
part_size ipv6 p e = between 4 p (and_both (leb 1 (length p) && leb (length p) 4) (all_digits 16 p) e).0 (omega arith)
part_size mac p e =
    let n = eqb-true (length p) 2 (and_both (eqb (length p) 2) (all_digits 16 p) e).0 in
    omega arith

-- a good part is below what it moves those before it by
part_lt : (s : Scheme) (p : List ℕ) → is_part s p ≡ true → value_of (base_of s) p < scale_of s
part_lt ipv4 p e =
    let long = leb 1 (length p) && leb (length p) 3 && all_digits 10 p && (eqb (length p) 1 || not (starts (is "0") p)) in
    let l = leb-true (value_of 10 p) 255 (and_both long (leb (value_of 10 p) 255) e).1 in
    omega arith
part_lt ipv6 p e =
    let f = and_both (leb 1 (length p) && leb (length p) 4) (all_digits 16 p) e in
    let n = (part_size ipv6 p e).1 in
    let l = value_lt 16 p f.1 in
    let m : 16 ^ length p ≤ 16 ^ 4 = pow-le-pow_right (lit< tt) n in
    omega arith
part_lt mac p e =
    let f = and_both (eqb (length p) 2) (all_digits 16 p) e in
    let n : length p ≡ 2 = eqb-true (length p) 2 f.0 in
    rw n at (value_lt 16 p f.1)

pub parts_below : (s : Scheme) (ps : List (List ℕ)) → every (is_part s) ps ≡ true → Below (scale_of s) (numbers s ps)
parts_below s [] e = tt
parts_below s (p ∷ ps) e = let f = and_both (is_part s p) (every (is_part s) ps) e in (part_lt s p f.0, parts_below s ps f.1)

pub parts_lt : (s : Scheme) (ps : List (List ℕ)) → every (is_part s) ps ≡ true → in_base (scale_of s) (numbers s ps) < scale_of s ^ length ps
parts_lt s ps e =
    let l = after_lt (scale_of s) (numbers s ps) 0 (parts_below s ps e) in
    rw (zero-add, one-mul, length-map) at l

-- up to four digits, each a byte, fit a word
module _ (v base i : ℕ) (h : v < 272 ^ i) (b : base ≤ 16) where
  pub value_on : (d : ℕ) → d < 256 → v * base + d < 272 ^ (i + 1)
  value_on d l =
      let m : v * base ≤ v * 16 = mul-le-mul_left v b in
      rw (add-one, pow-succ') (omega arith)

  pub value_fits : i < 4 → v * base + 256 < 2 ^ 32
  value_fits l =
      let m : v * base ≤ v * 16 = mul-le-mul_left v b in
      let n : 272 ^ i ≤ 272 ^ 3 = pow-le-pow_right (lit< tt) {i = i} {j = 3} (omega arith) in
      omega arith
