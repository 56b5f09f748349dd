-- Kinds, fields and comparisons by their numbers: a number names what has that number, and one past the last names the last. So it
-- spells what it names exactly up to the last.
use Prim.Native.Nat.{ℕ, zero, suc, ◌*◌, ◌≤◌, ◌<◌, min}
use native.Mathlib.Omega.{arith}
use mathlib.Core.Path.{◌≡◌, refl, sym, ◌∙◌}
use mathlib.Core.Bool.{Bool, true, false, ◌||◌}
use lib.Dec.{leb, eqb}
use borrow.Author.Tests.{leb-true, leb-false, lt-leb, eq-eqb, ne_eqb}
use Rattle.paper.specs.Keys.{kind_no, kind_of}
use Rattle.paper.specs.Code.{bit, first_byte, field_no, field_of, comparison_no, comparison_of}

spelled : (n m last : ℕ) → m ≡ min n last → eqb n m ≡ leb n last
spelled n m last e = go (leb n last) (leb-true n last) (leb-false n last)
  where
    go : (b : Bool) → (b ≡ true → n ≤ last) → (b ≡ false → last < n) → eqb n m ≡ b
    go true low over = let l = low refl in eq-eqb n m (omega arith)
    go false low over = let l = over refl in ne_eqb n m (λ f. omega arith)

-- past the last

bit_over : (n : ℕ) → 2 ≤ n → bit (eqb n 1) ≡ 0
bit_over n h = rw (ne_eqb n 1 (λ e. omega arith))

kind_over : (n : ℕ) → 4 ≤ n → kind_no (kind_of n) ≡ 4
kind_over n h = rw (ne_eqb n 0 (λ e. omega arith), ne_eqb n 1 (λ e. omega arith), ne_eqb n 2 (λ e. omega arith), ne_eqb n 3 (λ e. omega arith))

field_over : (n : ℕ) → 4 ≤ n → field_no (field_of n) ≡ 4
field_over n h = rw (ne_eqb n 0 (λ e. omega arith), ne_eqb n 1 (λ e. omega arith), ne_eqb n 2 (λ e. omega arith), ne_eqb n 3 (λ e. omega arith))

comparison_over : (n : ℕ) → 5 ≤ n → comparison_no (comparison_of n) ≡ 5
comparison_over n h =
    rw (ne_eqb n 0 (λ e. omega arith), ne_eqb n 1 (λ e. omega arith), ne_eqb n 2 (λ e. omega arith), ne_eqb n 3 (λ e. omega arith), ne_eqb n 4 (λ e. omega arith))

-- the number of what a number names

pub kind_number : (n : ℕ) → kind_no (kind_of n) ≡ min n 4
kind_number zero = refl
kind_number (suc zero) = refl
kind_number (suc (suc zero)) = refl
kind_number (suc (suc (suc zero))) = refl
kind_number (suc (suc (suc (suc n)))) = let m = suc (suc (suc (suc n))) in kind_over m (omega arith) ∙ omega arith

pub field_number : (n : ℕ) → field_no (field_of n) ≡ min n 4
field_number zero = refl
field_number (suc zero) = refl
field_number (suc (suc zero)) = refl
field_number (suc (suc (suc zero))) = refl
field_number (suc (suc (suc (suc n)))) = let m = suc (suc (suc (suc n))) in field_over m (omega arith) ∙ omega arith

pub comparison_number : (n : ℕ) → comparison_no (comparison_of n) ≡ min n 5
comparison_number zero = refl
comparison_number (suc zero) = refl
comparison_number (suc (suc zero)) = refl
comparison_number (suc (suc (suc zero))) = refl
comparison_number (suc (suc (suc (suc zero)))) = refl
comparison_number (suc (suc (suc (suc (suc n))))) =
    let m = suc (suc (suc (suc (suc n)))) in comparison_over m (omega arith) ∙ omega arith

-- the number is its own

pub bit_spelled : (n : ℕ) → eqb n (bit (eqb n 1)) ≡ leb n 1
bit_spelled zero = refl
bit_spelled (suc zero) = refl
bit_spelled (suc (suc n)) =
    let m = suc (suc n) in rw (bit_over m (omega arith), ne_eqb m 0 (λ e. omega arith)) (sym (lt-leb m 1 (omega arith)))

-- a bool in the first byte of a constant
pub first_spelled : (n : ℕ) → eqb n (bit (eqb n first_byte) * first_byte) ≡ eqb n first_byte || eqb n 0
first_spelled n = go (eqb n first_byte) refl
  where
    go : (b : Bool) → eqb n first_byte ≡ b → eqb n (bit b * first_byte) ≡ b || eqb n 0
    go true e = e
    go false e = refl

pub kind_spelled : (n : ℕ) → eqb n (kind_no (kind_of n)) ≡ leb n 4
kind_spelled n = spelled n (kind_no (kind_of n)) 4 (kind_number n)

pub field_spelled : (n : ℕ) → eqb n (field_no (field_of n)) ≡ leb n 4
field_spelled n = spelled n (field_no (field_of n)) 4 (field_number n)

pub comparison_spelled : (n : ℕ) → eqb n (comparison_no (comparison_of n)) ≡ leb n 5
comparison_spelled n = spelled n (comparison_no (comparison_of n)) 5 (comparison_number n)
