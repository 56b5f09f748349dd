-- Kinds, types, fields and comparisons by their numbers: what a test of the number says of what it stands for.
-- Assumes nothing.
use Prim.Native.Nat.{ℕ, zero, suc, ◌+◌, ◌-◌, ◌*◌, ◌/◌, ◌%◌, ◌^◌, ◌<◌, ◌≤◌}
use mathlib.Core.Path.{◌≡◌, refl, ◌∙◌, ap, ap₂}
use mathlib.Core.Bool.{Bool, true, false, not, cond, ◌&&◌, ◌||◌, and-true, and_self}
use native.Mathlib.Omega.{arith}
use borrow.Author.Tests.{eq-eqb, ne_eqb, lt-ltb}
use lib.Dec.{eqb, ltb}
use Rattle.paper.specs.Tokens.{equal, unequal, greater, at_least, less, at_most}
use Rattle.paper.specs.Keys.{Kind, exact, ternary, lpm, range, optional, kind_of}
use Rattle.paper.specs.Entry.{Match, is_exact}
use Rattle.paper.specs.Types.{Ty, bool, int, of, bits, is_number, ordered, suits, Field, value, mask, prefix_length, low, high, has, field_ty}
use Rattle.paper.specs.Meaning.{one_value}
use Rattle.paper.specs.Code.{comparison_of, field_of, field_no}
use Rattle.paper.proofs.MeetingTypes.{meet_own}
use Rattle.values.specs.Numbered.{ty_numbered}

-- kinds

kind_over : (n : ℕ) → 4 ≤ n → kind_of n ≡ optional
kind_over n h = simp (
  ne_eqb n 0 (λ e. omega arith),
  ne_eqb n 1 (λ e. omega arith),
  ne_eqb n 2 (λ e. omega arith),
  ne_eqb n 3 (λ e. omega arith),
)

module _ {A : Type 0} (f : Kind → A) (t : ℕ → A) (t0 : t 0 ≡ f exact) (t1 : t 1 ≡ f ternary) (t2 : t 2 ≡ f lpm)
    (t3 : t 3 ≡ f range) (over : (n : ℕ) → 4 ≤ n → t n ≡ f optional) where
  at_over : (n : ℕ) → 4 ≤ n → t n ≡ f (kind_of n)
  at_over n h = rw (kind_over n h) (over n h)

  by_kind : (n : ℕ) → t n ≡ f (kind_of n)
  by_kind zero = t0
  by_kind (suc zero) = t1
  by_kind (suc (suc zero)) = t2
  by_kind (suc (suc (suc zero))) = t3
  by_kind (suc (suc (suc (suc n)))) = at_over (suc (suc (suc (suc n)))) (omega arith)

pub kind_exact : (n : ℕ) → eqb n 0 ≡ is_exact (kind_of n)
kind_exact = by_kind is_exact (λ n. eqb n 0) refl refl refl refl (λ n h. ne_eqb n 0 (λ e. omega arith))

-- types

-- a kind and a width are bytes, so they are the two digits to base 256 of what stands over 2
pub of_number : (k w : ℕ) → k < 256 → w < 256 → ty_numbered (2 + k * 256 + w) ≡ of (kind_of k) w
of_number k w narrow-kind narrow =
    let number : 2 + k * 256 + w ≡ suc (suc (k * 256 + w)) = omega arith in
    let kind : (k * 256 + w) / 256 % 256 ≡ k = omega arith in
    let width : (k * 256 + w) % 256 ≡ w = omega arith in
    ap ty_numbered number ∙ ap₂ (λ a b. of (kind_of a) b) kind width

-- a number that is neither bool's nor int's is 2 and something over it
pub numbered_of : (n m : ℕ) → n ≡ m + 2 → ty_numbered n ≡ of (kind_of (m / 256 % 256)) (m % 256)
numbered_of n m e =
    let two : n ≡ suc (suc m) = omega arith in
    ap ty_numbered two

-- fields

pub has_value : (n : ℕ) → not (eqb n 3) ≡ has (kind_of n) value
has_value = by_kind (λ k. has k value) (λ n. not (eqb n 3)) refl refl refl refl (λ n h. rw (ne_eqb n 3 (λ e. omega arith)))

pub has_mask : (n : ℕ) → (eqb n 1 || ltb 3 n) ≡ has (kind_of n) mask
has_mask =
    by_kind (λ k. has k mask) (λ n. eqb n 1 || ltb 3 n) refl refl refl refl
    (λ n h. rw (ne_eqb n 1 (λ e. omega arith), lt-ltb 3 n (omega arith)))

pub has_length : (n : ℕ) → eqb n 2 ≡ has (kind_of n) prefix_length
has_length = by_kind (λ k. has k prefix_length) (λ n. eqb n 2) refl refl refl refl (λ n h. ne_eqb n 2 (λ e. omega arith))

pub has_bound : (is-low : Bool) (n : ℕ) → eqb n 3 ≡ has (kind_of n) (cond is-low low high)
has_bound true = by_kind (λ k. has k low) (λ n. eqb n 3) refl refl refl refl (λ n h. ne_eqb n 3 (λ e. omega arith))
has_bound false = by_kind (λ k. has k high) (λ n. eqb n 3) refl refl refl refl (λ n h. ne_eqb n 3 (λ e. omega arith))

pub field_bits : (a b d : Bool) (w : ℕ) → bits w ≡ field_ty w (cond a value (cond b mask (cond d low high)))
field_bits true b d w = refl
field_bits false true d w = refl
field_bits false false true w = refl
field_bits false false false w = refl

pub field_back : (f : Field) → field_of (field_no f) ≡ f
field_back value = refl
field_back mask = refl
field_back prefix_length = refl
field_back low = refl
field_back high = refl

-- comparisons

ordered_number : (t : Ty) → is_number t ≡ ordered t t
ordered_number bool = refl
ordered_number int = refl
ordered_number (of k w) = rw (eq-eqb w w refl, and-true (is_exact k && is_exact k), and_self (is_exact k))

by_sign : (a b c d e : Bool) (t : Ty)
    → ((a || b) || is_number t) ≡ suits (cond a equal (cond b unequal (cond c greater (cond d at_least (cond e less at_most))))) t
by_sign true b c d e t = rw (meet_own t)
by_sign false true c d e t = rw (meet_own t)
by_sign false false true d e t = ordered_number t
by_sign false false false true e t = ordered_number t
by_sign false false false false true t = ordered_number t
by_sign false false false false false t = ordered_number t

pub suits_number : (n : ℕ) (t : Ty) → ((eqb n 0 || eqb n 1) || is_number t) ≡ suits (comparison_of n) t
suits_number n t = by_sign (eqb n 0) (eqb n 1) (eqb n 2) (eqb n 3) (eqb n 4) t

-- matches of one value

pub one_masked : (b : Bool) (w n : ℕ)
    → ◌≡◌ {A = Match} (record { first = n; second = 2 ^ w - 1; length = 0 }) (one_value (cond b ternary optional) w n)
one_masked true w n = refl
one_masked false w n = refl
