-- Laws of answers in stages: what is known of a call that passes.
use Prim.Native.Nat.{ℕ}
use Rattle.std.specs.Prelude.{Result, Ok, Err}
use Rattle.paper.specs.declared.Refusal.{Refusal}
use native.Mathlib.Omega.{arith}
use mathlib.Core.Path.{◌≡◌, refl}
use mathlib.Core.Bool.{Bool, true, false}
use Rattle.paper.specs.declared.Place.{Place}
use Rattle.paper.specs.Answers.{Answer, ok, refused, ◌>>=◌, require, Input, input_of, offset_of, says, refused_by}

-- a property of what is answered, if anything is
abbrev pub Of : {A : Type 0} → (A → Type 0) → Answer A → Type 0
Of P (ok a) = P a
Of P (refused n i at) = Unit {0}

pub never_ok : {A : Type 0} {n : ℕ} {i : Input} {at : ℕ} {a : A} → refused n i at ≡ ok a → ⊥
never_ok e = let z : ◌≡◌ {A = ℕ} 0 1 = cc in omega arith

pub ok_same : {A : Type 0} (a b : A) → ok a ≡ ok b → a ≡ b
ok_same a b e = cc

-- both stages passed
pub bind_ok : {A B : Type 0} (x : Answer A) (f : A → Answer B) (b : B) → (x >>= f) ≡ ok b → (a : A) × (x ≡ ok a) × (f a ≡ ok b)
bind_ok (ok a) f b e = (a, refl, e)
bind_ok (refused n i at) f b e = absurd (never_ok e)

pub bind_again : {A B C : Type 0} (x : Answer A) (f : A → Answer B) (g : B → Answer C) → (x >>= f >>= g) ≡ (x >>= λ a. f a >>= g)
bind_again (ok a) f g = refl
bind_again (refused n i at) f g = refl

-- a stage that tests what it hands on
pub test_again : {A B : Type 0} (x : Answer A) (t : A → Answer (Unit {0})) (f : A → B)
    → (x >>= (λ a. t a >>= λ _. ok a) >>= λ a. ok (f a)) ≡ (x >>= λ a. t a >>= λ _. ok (f a))
test_again (refused n i at) t f = refl
test_again (ok a) t f = go (t a)
  where
    go : (y : Answer (Unit {0})) → (y >>= (λ _. ok a) >>= λ a. ok (f a)) ≡ (y >>= λ _. ok (f a))
    go (ok u) = refl
    go (refused n i at) = refl

-- the test passed
pub require_ok : (t : Bool) (n : ℕ) (i : Input) (at : ℕ) (u : Unit {0}) → require t n i at ≡ ok u → t ≡ true
require_ok true n i at u e = refl
require_ok false n i at u e = absurd (never_ok e)

-- what follows from a property
pub of_so : {A : Type 0} (P Q : A → Type 0) (x : Answer A) → Of P x → ((a : A) → P a → Q a) → Of Q x
of_so P Q (ok a) h k = k a h
of_so P Q (refused n i at) h k = tt

-- a property along two stages
pub of_bind : {A B : Type 0} (P : A → Type 0) (Q : B → Type 0) (x : Answer A) (f : A → Answer B) → Of P x → ((a : A) → P a → Of Q (f a))
    → Of Q (x >>= f)
of_bind P Q (ok a) f h k = k a h
of_bind P Q (refused n i at) f h k = tt

-- a stage that refused, and one that counted: what the stages after it come to
module _ {B : Type 0} {o : Answer ℕ} (f : ℕ → Answer B) (r : Result ℕ Refusal) (says : says r ≡ o) where
  pub refused_up : {v : Refusal} → r ≡ Err v → refused_by v ≡ (o >>= f)
  refused_up e = rw (← says, e)

  pub counted_on : {n : ℕ} → r ≡ Ok n → f n ≡ (o >>= f)
  counted_on e = rw (← says, e)
