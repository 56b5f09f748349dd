-- Two Magnitudes compared limb by limb, from the highest down.
-- Assumes nothing.
use Rattle.std.proofs.Common.{◌≡◌, ℕ, ◌+◌, ◌*◌, ◌^◌, ◌<◌, ◌≤◌, Bool, true, false, cond, eqb, ltb, List, Some, Option, Less, Ordering, Equal, Greater, get_or, sym, refl, ap, ◌∙◌, mul-suc, le_refl, mul-le-mul_left, arith, ltb-true, lt-ltb, le-ltb, eq-eqb, ne_eqb, eqb-true}
use native.Mathlib.Decide.{dec_lt}
use Rattle.std.proofs.lemmas.Bool.Decides.{Decides-eqb}
use Rattle.std.proofs.lemmas.Slice.Eq.{slice_eq-Decides}
use Rattle.std.specs.Cmp.Lexicographic.{pointwise}
use Rattle.std.specs.Ordering.{is_some_and, nat_cmp, is_lt, partial_ordering_then}
use Rattle.number.specs.declared.magnitude.Magnitude.{Magnitude}
use Rattle.number.specs.Values.{limb, nested, value}
use Rattle.number.proofs.Limbs.{Held, same_value}

pub agree : (s t : Bool) → (s ≡ true → t ≡ true) → (t ≡ true → s ≡ true) → s ≡ t
agree true t f g = sym (f refl)
agree false true f g = g refl
agree false false f g = refl

pub ltb_iff : (a b c d : ℕ) → (a < b → c < d) → (c < d → a < b) → ltb a b ≡ ltb c d
ltb_iff a b c d f g = agree (ltb a b) (ltb c d) (λ h. lt-ltb c d (f (ltb-true a b h))) (λ h. lt-ltb a b (g (ltb-true c d h)))

pub eqb_iff : (a b c d : ℕ) → (a ≡ b → c ≡ d) → (c ≡ d → a ≡ b) → eqb a b ≡ eqb c d
eqb_iff a b c d f g = agree (eqb a b) (eqb c d) (λ h. eq-eqb c d (f (eqb-true a b h))) (λ h. eq-eqb a b (g (eqb-true c d h)))

-- the test that a comparison answers
lt_told : (m n : ℕ) → is_lt (nat_cmp m n) ≡ ltb m n
lt_told m n = go (ltb m n) (eqb m n)
  where
    go : (s t : Bool) → is_lt (cond s Less (cond t Equal Greater)) ≡ s
    go true t = refl
    go false true = refl
    go false false = refl

cmp_less : {m n : ℕ} → m < n → nat_cmp m n ≡ Less
cmp_less {m} {n} h = rw (lt-ltb m n h) refl

cmp_more : {m n : ℕ} → n < m → nat_cmp m n ≡ Greater
cmp_more {m} {n} h =
    let above : n ≤ m = omega arith in
    rw (le-ltb m n above, ne_eqb m n (λ e. omega arith)) refl

cmp_same : (B a b m n : ℕ) → m ≡ n → nat_cmp a b ≡ nat_cmp (a + B * m) (b + B * n)
cmp_same B a b m n e =
    rw (
      e,
      ltb_iff a b (a + B * n) (b + B * n) (λ h. omega arith) (λ h. omega arith),
      eqb_iff a b (a + B * n) (b + B * n) (λ h. omega arith) (λ h. omega arith),
    ) refl

-- two numbers of two digits, the higher digits first
digit_by_digit : (B a b m n : ℕ) → a < B → b < B
    → partial_ordering_then (Some (nat_cmp m n)) (Some (nat_cmp a b)) ≡ Some (nat_cmp (a + B * m) (b + B * n))
digit_by_digit B a b m n ha hb = go (dec_lt m n) (dec_lt n m)
  where
    go : Dec (m < n) → Dec (n < m) → partial_ordering_then (Some (nat_cmp m n)) (Some (nat_cmp a b)) ≡ Some (nat_cmp (a + B * m) (b + B * n))
    go (yes p) q =
        let above = mul-le-mul_left B p in
        let less : a + B * m < b + B * n = omega (arith, above, mul-suc B m) in
        rw (cmp_less p, cmp_less less) refl
    go (no p) (yes q) =
        let above = mul-le-mul_left B q in
        let more : b + B * n < a + B * m = omega (arith, above, mul-suc B n) in
        rw (cmp_more q, cmp_more more) refl
    go (no p) (no q) =
        let e : m ≡ n = omega arith in
        ap (λ o. partial_ordering_then (Some o) (Some (nat_cmp a b))) (tied e) ∙ ap Some (cmp_same B a b m n e)
      where
        tied : m ≡ n → nat_cmp m n ≡ Equal
        tied e = rw (e, le-ltb n n (le_refl n), eq-eqb n n refl) refl

module _ (a b : Magnitude) (ha : Held a) (hb : Held b) where
  abbrev at : ℕ → Option Ordering
  at i = Some (nat_cmp (limb a i) (limb b i))

  -- the first two limbs that differ, from the highest down, decide
  pub by_limbs : is_some_and is_lt (partial_ordering_then (partial_ordering_then (partial_ordering_then (at 3) (at 2)) (at 1)) (at 0)) ≡ ltb (value a) (value b)
  unfolding value
  by_limbs =
      ap (λ (o : Option Ordering). is_some_and is_lt o)
      (ap (λ (o : Option Ordering). partial_ordering_then o (at 0))
      (ap (λ (o : Option Ordering). partial_ordering_then o (at 1)) (digit_by_digit (2 ^ 32) _ _ _ _ ha.l2.fits hb.l2.fits)
      ∙ digit_by_digit (2 ^ 32) _ _ _ _ ha.l1.fits hb.l1.fits)
      ∙ digit_by_digit (2 ^ 32) _ _ _ _ ha.l0.fits hb.l0.fits)
      ∙ lt_told (value a) (value b)

  -- two numbers are the same where their limbs are
  pub same_limbs : pointwise eqb a.limbs b.limbs ≡ eqb (value a) (value b)
  unfolding value
  same_limbs =
      let told = slice_eq-Decides Decides-eqb a.limbs b.limbs (pointwise eqb a.limbs b.limbs) refl in
      agree (pointwise eqb a.limbs b.limbs) (eqb (value a) (value b))
      (λ e. eq-eqb (value a) (value b) (ap (λ (l : List ℕ). nested (get_or l 0 0) (get_or l 1 0) (get_or l 2 0) (get_or l 3 0)) (told.0 e)))
      (λ e. told.1 (ap (λ (m : Magnitude). m.limbs) (same_value a b ha hb (eqb-true (value a) (value b) e))))
