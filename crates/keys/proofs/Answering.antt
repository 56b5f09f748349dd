-- From an answer back to the tests that it passed, and to the answer of which only a part was kept.
use Prim.Native.Nat.{ℕ}
use mathlib.Core.Path.{◌≡◌, refl, sym}
use mathlib.Core.Bool.{Bool, true, false, ◌&&◌}
use native.Mathlib.Omega.{arith}
use Rattle.paper.specs.Answers.{Answer, ok, refused, ◌>>=◌, require, Input}

pub never : false ≡ true → ⊥
never e =
    let z : ◌≡◌ {A = ℕ} 0 1 = cc in
    omega arith

pub and_both : (a b : Bool) → (a && b) ≡ true → (a ≡ true) × (b ≡ true)
and_both true b h = (refl, h)
and_both false b h = absurd (never h)

no_pass : {A : Type 0} {a : A} {n : ℕ} {i : Input} {at : ℕ} → refused n i at ≡ ok a → ⊥
no_pass e =
    let z : ◌≡◌ {A = ℕ} 0 1 = cc in
    omega arith

module _ (n : ℕ) (i : Input) (at : ℕ) {A : Type 0} {x : A} where
  pub required : (b : Bool) (a : Answer A) → (require b n i at >>= λ _. a) ≡ ok x → (b ≡ true) × (a ≡ ok x)
  required true a e = (refl, e)
  required false a e = absurd (no_pass e)

module _ {A B : Type 0} (f : A → B) where
  pub passed_on : (a : Answer A) {b : B} → (a >>= λ x. ok (f x)) ≡ ok b → (x : A) × (a ≡ ok x) × (f x ≡ b)
  passed_on (ok x) e = (x, refl, cc)
  passed_on (refused n i at) e = absurd (no_pass e)

  pub refused_on : (a : Answer A) {n : ℕ} {i : Input} {at : ℕ}
      → (a >>= λ x. ok (f x)) ≡ refused n i at → a ≡ refused n i at
  refused_on (ok x) e = absurd (no_pass (sym e))
  refused_on (refused n i at) e = cc
