-- Digits are written from the last one on, each before those that stand: with the digits that are left they are the whole numeral.
use Rattle.std.proofs.Common.{◌≡◌, ℕ, suc, ◌-◌, ◌/◌, ◌%◌, ◌<◌, ◌≤◌, true, false, ltb, List, [], ◌∷◌, ◌++◌, map, length, drop, set, sym, refl, ap, ◌∙◌, ap₂, append_assoc, mod-eq_of_lt, arith, length-set, drop-cons, get_or-set_same, drop-set-lt, ltb-true}
use Rattle.paper.specs.Print.{digit_byte, digits_in}
use Rattle.number.specs.Numerals.{numeral_with}

map_append : (f : ℕ → ℕ) (xs ys : List ℕ) → map f (xs ++ ys) ≡ map f xs ++ map f ys
map_append f [] ys = refl
map_append f (x ∷ xs) ys = ap (λ (l : List ℕ). f x ∷ l) (map_append f xs ys)

put_before : (s : List ℕ) (i a : ℕ) → i < length s → drop i (set s i a) ≡ a ∷ drop (suc i) s
put_before s i a h =
    drop-cons (set s i a) i 0 (rw length-set h) ∙ ap₂ ◌∷◌ (get_or-set_same s i a 0 h) (drop-set-lt (suc i) s i a (omega arith))

module _ (base n : ℕ) (s : List ℕ) where
  more : (j : ℕ) → j < length s → ltb n base ≡ false
      → numeral_with base j (n / base) (set s j (digit_byte (n % base))) ≡ numeral_with base (suc j) n s
  more j h e =
      rw e
      (ap (λ (l : List ℕ). map digit_byte (digits_in base j (n / base)) ++ l) (put_before s j (digit_byte (n % base)) h)
      ∙ sym (append_assoc (map digit_byte (digits_in base j (n / base))) (digit_byte (n % base) ∷ []) (drop (suc j) s))
      ∙ ap (λ (l : List ℕ). l ++ drop (suc j) s) (sym (map_append digit_byte (digits_in base j (n / base)) (n % base ∷ []))))

  last : (j : ℕ) → j < length s → ltb n base ≡ true → drop j (set s j (digit_byte (n % base))) ≡ numeral_with base (suc j) n s
  last j h e = put_before s j (digit_byte (n % base)) h ∙ rw (e, mod-eq_of_lt (ltb-true n base e))

  pub digit_more : (i : ℕ) → 0 < i → i ≤ length s → ltb n base ≡ false
      → numeral_with base (i - 1) (n / base) (set s (i - 1) (digit_byte (n % base))) ≡ numeral_with base i n s
  digit_more i p h e =
      let k : i ≡ suc (i - 1) = omega arith in
      more (i - 1) (omega arith) e ∙ ap (λ x. numeral_with base x n s) (sym k)

  pub digit_last : (i : ℕ) → 0 < i → i ≤ length s → ltb n base ≡ true
      → drop (i - 1) (set s (i - 1) (digit_byte (n % base))) ≡ numeral_with base i n s
  digit_last i p h e =
      let k : i ≡ suc (i - 1) = omega arith in
      last (i - 1) (omega arith) e ∙ ap (λ x. numeral_with base x n s) (sym k)
