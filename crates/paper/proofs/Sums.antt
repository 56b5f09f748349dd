-- The check's first sum is the sum of the words, modulo 65,535, so that it changes with any one byte.
use Prim.Native.Nat.{ℕ, zero, suc, ◌+◌, ◌*◌, ◌/◌, ◌%◌, ◌<◌}
use native.Mathlib.Nat.{mod-eq_of_lt, mod-add-mod, add-zero, zero-add, add_assoc, not-suc-le-zero, le_of_suc-le-suc}
use native.Mathlib.Decide.{dec_lt}
use native.Mathlib.Omega.{arith}
use mathlib.Core.Logic.{◌≢◌, ◌⊎◌, inl, inr, ⊎_elim}
use mathlib.Core.Path.{◌≡◌, refl, sym, ap, ◌∙◌}
use mathlib.Core.List.{List, [], ◌∷◌}
use lib.ListN.{length, set}
use Rattle.paper.specs.Numbers.{byte_at, number_at}
use Rattle.paper.specs.Blocks.{sums_from, sums_of, check_of}
use Rattle.paper.proofs.Digits.{number_back}

unfoldable pub word_sum : List ℕ → ℕ
word_sum [] = 0
word_sum (x ∷ []) = 0
word_sum (x ∷ y ∷ s) = x * 256 + y + word_sum s

first_sum : (s : List ℕ) (a b : ℕ) → a < 65535 → (sums_from a b s).first ≡ (a + word_sum s) % 65535
unfolding word_sum
first_sum [] a b h = rw add-zero (sym (mod-eq_of_lt h))
first_sum (x ∷ []) a b h = rw add-zero (sym (mod-eq_of_lt h))
first_sum (x ∷ y ∷ s) a b h =
    let c = (a + (x * 256 + y)) % 65535 in
    first_sum s c ((b + c) % 65535) (omega arith) ∙ mod-add-mod (a + (x * 256 + y)) 65535 (word_sum s) ∙ ap (λ n. n % 65535) (add_assoc a (x * 256 + y) (word_sum s))

pub first_of : (s : List ℕ) → (sums_of s).first ≡ word_sum s % 65535
unfolding sums_of
first_of s = first_sum s 0 0 (omega arith) ∙ ap (λ n. n % 65535) (zero-add (word_sum s))

-- the check tells the first sum
check_tells : (s t : List ℕ) → check_of s ≡ check_of t → word_sum s % 65535 ≡ word_sum t % 65535
check_tells s t h = sym (told s) ∙ ap (λ c. number_at c 2 2) h ∙ told t
  where
    told : (s : List ℕ) → number_at (check_of s) 2 2 ≡ word_sum s % 65535
    told s = number_back (check_of s) [] 2 2 (sums_of s).first refl (omega (arith, first_of s)) ∙ first_of s

-- a byte counts 256 or 1 in its word

abbrev pub Words : List ℕ → Type 0
Words [] = Unit {0}
Words (x ∷ []) = ⊥
Words (x ∷ y ∷ s) = Words s

pub even_words : (n : ℕ) (s : List ℕ) → length s ≡ 2 * n → Words s
even_words zero [] h = tt
even_words zero (x ∷ s) h = absurd (omega arith)
even_words (suc n) [] h = tt
even_words (suc n) (x ∷ []) h = absurd (omega arith)
even_words (suc n) (x ∷ y ∷ s) h = even_words n s (omega arith)

sum_set : (s : List ℕ) (j v : ℕ) → Words s → j < length s
    → (word_sum (set s j v) + 256 * byte_at s j ≡ word_sum s + 256 * v) ⊎ (word_sum (set s j v) + byte_at s j ≡ word_sum s + v)
unfolding word_sum
sum_set [] j v w h = absurd (not-suc-le-zero h)
sum_set (x ∷ []) j v w h = absurd w
sum_set (x ∷ y ∷ s) zero v w h = inl (omega arith)
sum_set (x ∷ y ∷ s) (suc zero) v w h = inr (omega arith)
sum_set (x ∷ y ∷ s) (suc (suc j)) v w h =
    ⊎_elim (λ e. inl (omega arith)) (λ e. inr (omega arith)) (sum_set s j v w (le_of_suc-le-suc (le_of_suc-le-suc h)))

-- two sums that differ by less than the modulus leave different remainders
apart : (x y a b : ℕ) → b + x ≡ a + y → x < 65535 → y < 65535 → b % 65535 ≡ a % 65535 → x ≡ y
apart x y a b e l m r = go (dec_lt (b / 65535) (a / 65535)) (dec_lt (a / 65535) (b / 65535))
  where
    go : Dec (b / 65535 < a / 65535) → Dec (a / 65535 < b / 65535) → x ≡ y
    go (yes p) q = absurd (omega arith)
    go (no p) (yes q) = absurd (omega arith)
    go (no p) (no q) = omega arith

pub check_changes : (s : List ℕ) (j v : ℕ) → Words s → j < length s → byte_at s j < 256 → v < 256 → v ≢ byte_at s j
    → check_of (set s j v) ≡ check_of s → ⊥
check_changes s j v w h b c other same =
    let e = check_tells (set s j v) s same in
    ⊎_elim (λ d. omega (arith, apart (256 * byte_at s j) (256 * v) (word_sum s) (word_sum (set s j v)) d (omega arith) (omega arith) e))
    (λ d. omega (arith, apart (byte_at s j) v (word_sum s) (word_sum (set s j v)) d (omega arith) (omega arith) e)) (sum_set s j v w h)
