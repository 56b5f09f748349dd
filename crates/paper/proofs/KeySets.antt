-- Sets of keys as numbers, bit k for key k: the lowest bit of one is its first key, and half of it the set of the later keys. So each law
-- goes key by key.
use Prim.Native.Nat.{ℕ, zero, suc, ◌+◌, ◌*◌, ◌-◌, ◌/◌, ◌%◌, ◌^◌, ◌≤◌, ◌<◌, max}
use native.Mathlib.Nat.{add-zero, pow-suc, pow-succ', div-one, zero-div, div-div-eq-div-mul}
use native.Mathlib.Omega.{arith}
use mathlib.Core.Path.{◌≡◌, refl, sym, ap, ap₂, ◌∙◌}
use mathlib.Core.Bool.{Bool, true, false, ◌||◌}
use lib.Dec.{eqb, lit<}
use lib.Bits.{bit_or, or_step}
use lib.Count.{ones, ones_step}
use borrow.Author.Tests.{eq-eqb, ne_eqb}
use Rattle.paper.specs.Keys.{most_keys}
use Rattle.paper.specs.Named.{bit_of, set_from, count_from, set_of, count_of}
use Rattle.paper.specs.RecheckedRight.{bit_at}

-- a lowest bit, and the rest

low_bit : (b : Bool) (x : ℕ) → (bit_of b + 2 * x) % 2 ≡ bit_of b
low_bit true x = omega arith
low_bit false x = omega arith

pub high_bits : (b : Bool) (x : ℕ) → (bit_of b + 2 * x) / 2 ≡ x
high_bits true x = omega arith
high_bits false x = omega arith

pub low_is : (b : Bool) (x : ℕ) → eqb ((bit_of b + 2 * x) % 2) 1 ≡ b
low_is true x = eq-eqb ((1 + 2 * x) % 2) 1 (low_bit true x)
low_is false x = ne_eqb ((0 + 2 * x) % 2) 1 (λ h. let e : (0 + 2 * x) % 2 ≡ 0 = low_bit false x in omega (arith, e, h))

-- the count of ones is the count of keys

ones_from : (p : ℕ → Bool) (n k : ℕ) → ones (set_from p k n) ≡ count_from p k n
unfolding ones
ones_from p zero k = refl
ones_from p (suc n) k =
    let later = set_from p (suc k) n in
    ones_step (set_from p k (suc n))
    ∙ ap₂ (λ (x y : ℕ). x + y) (low_bit (p k) later) (ap ones (high_bits (p k) later) ∙ ones_from p n (suc k))

pub ones_count : (p : ℕ → Bool) → ones (set_of p) ≡ count_of p
unfolding set_of count_of
ones_count p = ones_from p most_keys 0

-- the union of two sets

or_bit : (a b : Bool) → max (bit_of a) (bit_of b) ≡ bit_of (a || b)
or_bit true true = refl
or_bit true false = refl
or_bit false true = refl
or_bit false false = refl

or_from : (p q : ℕ → Bool) (n k : ℕ) → bit_or (set_from p k n) (set_from q k n) ≡ set_from (λ j. p j || q j) k n
or_from p q zero k = refl
or_from p q (suc n) k =
    let x = set_from p (suc k) n in
    let y = set_from q (suc k) n in
    let z = set_from (λ j. p j || q j) (suc k) n in
    let high : bit_or (set_from p k (suc n) / 2) (set_from q k (suc n) / 2) ≡ z =
    ap₂ bit_or (high_bits (p k) x) (high_bits (q k) y) ∙ or_from p q n (suc k)
    in
    let low : max (set_from p k (suc n) % 2) (set_from q k (suc n) % 2) ≡ bit_of (p k || q k) =
    ap₂ max (low_bit (p k) x) (low_bit (q k) y) ∙ or_bit (p k) (q k)
    in
    let turned : z * 2 + bit_of (p k || q k) ≡ bit_of (p k || q k) + 2 * z = omega arith in
    or_step (set_from p k (suc n)) (set_from q k (suc n)) ∙ ap₂ (λ (a b : ℕ). a * 2 + b) high low ∙ turned

pub or_set : (p q : ℕ → Bool) → bit_or (set_of p) (set_of q) ≡ set_of (λ j. p j || q j)
unfolding set_of
or_set p q = or_from p q most_keys 0

-- no key, and one key

none_from : (n k : ℕ) → set_from (λ j. false) k n ≡ 0
none_from zero k = refl
none_from (suc n) k = let e = none_from n (suc k) in omega (arith, e)

pub none_set : set_of (λ j. false) ≡ 0
unfolding set_of
none_set = none_from most_keys 0

past_from : (i n k : ℕ) → i < k → set_from (λ j. eqb i j) k n ≡ 0
past_from i zero k h = refl
past_from i (suc n) k h = let e = past_from i n (suc k) (omega arith) in rw (ne_eqb i k (omega arith), e)

one_from : (i n k : ℕ) → k ≤ i → i < k + n → set_from (λ j. eqb i j) k n ≡ 2 ^ (i - k)
one_from i zero k h g = absurd (omega arith)
one_from i (suc n) k h g = go (i - k) refl (λ f. one_from i n (suc k) f (omega arith))
  where
    go : (d : ℕ) → i - k ≡ d → (suc k ≤ i → set_from (λ j. eqb i j) (suc k) n ≡ 2 ^ (i - suc k))
        → set_from (λ j. eqb i j) k (suc n) ≡ 2 ^ d
    go zero e later = rw (eq-eqb i k (omega arith), past_from i n (suc k) (omega arith))
    go (suc d) e later =
        let f : i - suc k ≡ d = omega arith in
        let r : set_from (λ j. eqb i j) (suc k) n ≡ 2 ^ d = later (omega arith) ∙ ap (λ (x : ℕ). 2 ^ x) f in
        rw (ne_eqb i k (omega arith), r) (let w : 2 ^ suc d ≡ 2 ^ d * 2 = pow-suc 2 d in omega (arith, w))

pub one_set : (i : ℕ) → i < most_keys → set_of (λ j. eqb i j) ≡ 2 ^ i
unfolding set_of
one_set i h =
    let z : i - 0 ≡ i = omega arith in
    one_from i most_keys 0 (omega arith) (omega arith) ∙ ap (λ (x : ℕ). 2 ^ x) z

-- bit by bit: that of a key is set exactly where the set has it, and there are no others

module _ (p : ℕ → Bool) where
  halved : (k n j : ℕ) → set_from p k (suc n) / 2 ^ suc j ≡ set_from p (suc k) n / 2 ^ j
  halved k n j =
      let set = set_from p k (suc n) in
      ap (λ (x : ℕ). set / x) (pow-succ' 2 j)
      ∙ sym (div-div-eq-div-mul set 2 (2 ^ j))
      ∙ ap (λ (x : ℕ). x / 2 ^ j) (high_bits (p k) (set_from p (suc k) n))

  bit_from : (n k j : ℕ) → j < n → bit_at (set_from p k n) j ≡ p (k + j)
  bit_from zero k j l = absurd (omega (arith, l))
  bit_from (suc n) k zero l =
      ap (λ (x : ℕ). eqb (x % 2) 1) (div-one (set_from p k (suc n))) ∙ low_is (p k) (set_from p (suc k) n) ∙ ap p (sym (add-zero k))
  bit_from (suc n) k (suc j) l =
      let next : suc k + j ≡ k + suc j = omega arith in
      ap (λ (x : ℕ). eqb (x % 2) 1) (halved k n j) ∙ bit_from n (suc k) j (omega (arith, l)) ∙ ap p next

  bit_past : (n k j : ℕ) → n ≤ j → bit_at (set_from p k n) j ≡ false
  bit_past zero k j l = ap (λ (x : ℕ). eqb (x % 2) 1) (zero-div (2 ^ j))
  bit_past (suc n) k zero l = absurd (omega (arith, l))
  bit_past (suc n) k (suc j) l = ap (λ (x : ℕ). eqb (x % 2) 1) (halved k n j) ∙ bit_past n (suc k) j (omega (arith, l))

  pub bit_of_lem : (k : ℕ) → k < most_keys → bit_at (set_of p) k ≡ p k
  unfolding set_of
  bit_of_lem k l = bit_from most_keys 0 k l ∙ ap p (let z : 0 + k ≡ k = omega arith in z)

  pub no_bit_past : (k : ℕ) → most_keys ≤ k → bit_at (set_of p) k ≡ false
  unfolding set_of
  no_bit_past k l = bit_past most_keys 0 k l

  fits_from : (n k : ℕ) → set_from p k n < 2 ^ n
  fits_from zero k = lit< tt
  fits_from (suc n) k =
      let later = fits_from n (suc k) in
      let double : 2 ^ suc n ≡ 2 ^ n * 2 = pow-suc 2 n in
      go (p k) later double
    where
      go : (b : Bool) → set_from p (suc k) n < 2 ^ n → 2 ^ suc n ≡ 2 ^ n * 2 → bit_of b + 2 * set_from p (suc k) n < 2 ^ suc n
      go true later double = omega (arith, later, double)
      go false later double = omega (arith, later, double)

  pub set_fits : set_of p < 2 ^ most_keys
  unfolding set_of
  set_fits = fits_from most_keys 0

  -- keys that are not there do not count

  count_none : (n k : ℕ) → ((j : ℕ) → k ≤ j → p j ≡ false) → count_from p k n ≡ 0
  count_none zero k none_there = refl
  count_none (suc n) k none_there =
      let later = count_none n (suc k) (λ j l. none_there j (omega (arith, l))) in
      rw (none_there k (omega arith), later)

  count_to : (n m k : ℕ) → n ≤ m → ((j : ℕ) → k + n ≤ j → p j ≡ false) → count_from p k m ≡ count_from p k n
  count_to zero m k few none_there = count_none m k (λ j l. none_there j (omega (arith, l)))
  count_to (suc n) zero k few none_there = absurd (omega (arith, few))
  count_to (suc n) (suc m) k few none_there =
      ap (λ (x : ℕ). bit_of (p k) + x) (count_to n m (suc k) (omega (arith, few)) (λ j l. none_there j (omega (arith, l))))

  pub count_of_lem : (n : ℕ) → n ≤ most_keys → ((j : ℕ) → n ≤ j → p j ≡ false) → count_of p ≡ count_from p 0 n
  unfolding count_of
  count_of_lem n few none_there = count_to n most_keys 0 few (λ j l. none_there j (omega (arith, l)))
