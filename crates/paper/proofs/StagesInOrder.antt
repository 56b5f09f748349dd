-- Laws of stages: what is known of each stage by itself is known of a call that runs them in order.
use Prim.Native.Nat.{ℕ}
use native.Mathlib.Omega.{arith}
use mathlib.Core.Path.{◌≡◌, refl, sym, subst, ◌∙◌}
use mathlib.Core.Logic.{inl, inr}
use mathlib.Core.Bool.{Bool, true, false, ◌&&◌}
use mathlib.Core.List.{List, [], ◌∷◌, ◌++◌}
use Rattle.paper.specs.Answers.{Input, Answer, ok, refused, ◌>>=◌, require}
use Rattle.paper.specs.Faults.{Faults}
use Rattle.paper.specs.Table.{Sooner, Wins, Free, Stage, stage, Decided, Clear, ByTable, Given}
use Rattle.paper.proofs.Stages.{never_ok, ok_same}

-- one fault wins

sole : (n at m to : ℕ) → Sooner n at m to → Sooner m to n at → (n ≡ m) × (at ≡ to)
sole n at m to (inl h) (inl g) = absurd (omega arith)
sole n at m to (inl h) (inr g) = absurd (omega (arith, g.0))
sole n at m to (inr h) (inl g) = absurd (omega (arith, h.0))
sole n at m to (inr h) (inr g) = (omega (arith, h.1, g.1), h.0)

one_wins : (F : Faults) (n at m to : ℕ) → Wins F n at → Wins F m to → (n ≡ m) × (at ≡ to)
one_wins F n at m to h g = sole n at m to (h.first m to g.fault) (g.first n at h.fault)

-- a fault that any other equals
pub only_wins : {F : Faults} {n at : ℕ} → F n at → ((m to : ℕ) → F m to → (m ≡ n) × (to ≡ at)) → Wins F n at
only_wins h only =
    record { fault = h; first = λ m to f. let e = only m to f in inr (sym e.1, omega (arith, e.0)) }

-- what an answer says of a stage

abbrev pub Tells : {A : Type 0} → Input → Faults → Answer A → Type 0
Tells i F (ok v) = Free F
Tells i F (refused n j at) = (j ≡ i) × Wins F n at

pub free_passes : {A : Type 0} (i : Input) (F : Faults) (a : Answer A) → Tells i F a → Free F → (v : A) × (a ≡ ok v)
free_passes i F (ok v) h free = (v, refl)
free_passes i F (refused n j at) h free = absurd (free n at h.1.fault)

-- a stage that is one test
pub test_tells : (F : Faults) (b : Bool) (n : ℕ) (i : Input) (at : ℕ) → (b ≡ true → Free F) → (b ≡ false → F n at)
    → ((m to : ℕ) → F m to → (m ≡ n) × (to ≡ at)) → Tells i F (require b n i at)
test_tells F true n i at free fault only = free refl
test_tells F false n i at free fault only = (refl, only_wins (fault refl) only)

-- and one that is two tests of one number at one place
pub two_tests_tell : (F : Faults) (a b : Bool) (n : ℕ) (i : Input) (at : ℕ) → (a ≡ true → b ≡ true → Free F) → (a ≡ false → F n at) → (b ≡ false → F n at)
    → ((m to : ℕ) → F m to → (m ≡ n) × (to ≡ at)) → Tells i F (require (a && b) n i at)
two_tests_tell F true b n i at free first second only = test_tells F b n i at (free refl) second only
two_tests_tell F false b n i at free first second only = (refl, only_wins (first refl) only)

-- the value does not count
pub tells_as : {A B : Type 0} (i : Input) (F : Faults) (a : Answer A) (f : A → B) → Tells i F a → Tells i F (a >>= λ v. ok (f v))
tells_as i F (ok v) f h = h
tells_as i F (refused n j at) f h = h

-- a stage that refuses only where there is a fault, and for each of its faults gives that one or one that comes sooner

abbrev pub RefusedFor : {A : Type 0} → Answer A → Input → ℕ → ℕ → Type 0
RefusedFor a i m to = (n at : ℕ) × (a ≡ refused n i at) × Sooner n at m to

pub soonest_tells : {A : Type 0} (i : Input) (F : Faults) (a : Answer A)
    → ((n : ℕ) (j : Input) (at : ℕ) → a ≡ refused n j at → (j ≡ i) × F n at) → ((m to : ℕ) → F m to → RefusedFor a i m to) → Tells i F a
soonest_tells i F (ok v) has gives = λ m to h. let (n, at, e, sooner) = gives m to h in never_ok (sym e)
soonest_tells i F (refused n j at) has gives =
    let (same, fault) = has n j at refl in
    (same, record { fault = fault; first = first })
  where
    first : (m to : ℕ) → F m to → Sooner n at m to
    first m to h =
        let (k, from, e, sooner) = gives m to h in
        let number : k ≡ n = cc in
        let place : from ≡ at = cc in
        subst (λ x. Sooner x at m to) number (subst (λ y. Sooner k y m to) place sooner)

-- a stage whose faults are at most one: it refuses where there is one, and only there
pub exact_tells : {A : Type 0} (i : Input) (F : Faults) (a : Answer A)
    → ((n : ℕ) (j : Input) (at : ℕ) → a ≡ refused n j at → (j ≡ i) × F n at) → ((n at : ℕ) → F n at → a ≡ refused n i at) → Tells i F a
exact_tells i F a has gives = soonest_tells i F a has (λ m to h. (m, to, gives m to h, inr (refl, omega arith)))

-- faults of what an earlier stage passed on

module _ {A : Type 0} (x : Answer A) (v : A) (there : x ≡ ok v) (F : A → Faults) where
  given_fault : (n at : ℕ) → Given x F n at → F v n at
  given_fault n at (w, e, h) = subst (λ u. F u n at) (ok_same w v (sym e ∙ there)) h

  pub given_tells : {B : Type 0} (i : Input) (a : Answer B) → Tells i (F v) a → Tells i (Given x F) a
  given_tells i (ok b) free = λ n at g. free n at (given_fault n at g)
  given_tells i (refused n j at) h =
      (h.0, record { fault = (v, there, h.1.fault); first = λ m to g. h.1.first m to (given_fault m to g) })

-- what an answer says of stages in order

abbrev pub Follows : {A : Type 0} → List Stage → Answer A → Type 0
Follows ss (ok v) = Clear ss
Follows ss (refused n i at) = Decided ss n i at

clear_append : (ss ts : List Stage) → Clear ss → Clear ts → Clear (ss ++ ts)
clear_append [] ts h k = k
clear_append (s ∷ ss) ts h k = (h.0, clear_append ss ts h.1 k)

decided_here : (ss ts : List Stage) (n : ℕ) (i : Input) (at : ℕ) → Decided ss n i at → Decided (ss ++ ts) n i at
decided_here [] ts n i at h = elim h [ ]
decided_here (s ∷ ss) ts n i at (inl h) = inl h
decided_here (s ∷ ss) ts n i at (inr h) = inr (h.0, decided_here ss ts n i at h.1)

decided_later : (ss ts : List Stage) (n : ℕ) (i : Input) (at : ℕ) → Clear ss → Decided ts n i at → Decided (ss ++ ts) n i at
decided_later [] ts n i at h k = k
decided_later (s ∷ ss) ts n i at h k = inr (h.0, decided_later ss ts n i at h.1 k)

follows_later : {A : Type 0} (ss ts : List Stage) (a : Answer A) → Clear ss → Follows ts a → Follows (ss ++ ts) a
follows_later ss ts (ok v) h k = clear_append ss ts h k
follows_later ss ts (refused n i at) h k = decided_later ss ts n i at h k

pub follows_then : {A B : Type 0} (ss ts : List Stage) (x : Answer A) (f : A → Answer B) → Follows ss x
    → ((v : A) → x ≡ ok v → Follows ts (f v)) → Follows (ss ++ ts) (x >>= f)
follows_then ss ts (ok v) f h k = follows_later ss ts (f v) h (k v refl)
follows_then ss ts (refused n i at) f h k = decided_here ss ts n i at h

pub follows_one : {A : Type 0} (i : Input) (F : Faults) (a : Answer A) → Tells i F a → Follows (stage i F ∷ []) a
follows_one i F (ok v) h = (h, tt)
follows_one i F (refused n j at) h = inl h

pub follows_as : {A B : Type 0} (ss : List Stage) (a : Answer A) (f : A → B) → Follows ss a → Follows ss (a >>= λ v. ok (f v))
follows_as ss (ok v) f h = h
follows_as ss (refused n i at) f h = h

-- so it refuses exactly so

abbrev Same : ℕ → Input → ℕ → ℕ → Input → ℕ → Type 0
Same n i at m j to = (n ≡ m) × (i ≡ j) × (at ≡ to)

one_decided : (ss : List Stage) (n : ℕ) (i : Input) (at m : ℕ) (j : Input) (to : ℕ) → Decided ss n i at → Decided ss m j to
    → Same n i at m j to
one_decided [] n i at m j to h _ = elim h [ ]
one_decided (s ∷ ss) n i at m j to (inl h) (inl g) =
    let e = one_wins s.faults n at m to h.1 g.1 in
    (e.0, h.0 ∙ sym g.0, e.1)
one_decided (s ∷ ss) n i at m j to (inl h) (inr g) = absurd (g.0 n at h.1.fault)
one_decided (s ∷ ss) n i at m j to (inr h) (inl g) = absurd (h.0 m to g.1.fault)
one_decided (s ∷ ss) n i at m j to (inr h) (inr g) = one_decided ss n i at m j to h.1 g.1

not_clear : (ss : List Stage) (n : ℕ) (i : Input) (at : ℕ) → Clear ss → ¬ Decided ss n i at
not_clear [] n i at h d = elim d [ ]
not_clear (s ∷ ss) n i at h (inl g) = h.0 n at g.1.fault
not_clear (s ∷ ss) n i at h (inr g) = not_clear ss n i at h.1 g.1

module _ {A : Type 0} (ss : List Stage) where
  given_decided : (a : Answer A) → Follows ss a → (n : ℕ) (i : Input) (at : ℕ) → Decided ss n i at → a ≡ refused n i at
  given_decided (ok v) h n i at d = absurd (not_clear ss n i at h d)
  given_decided (refused m j to) h n i at d =
      let (same_number, same-input, same-offset) = one_decided ss m j to n i at h d in
      cc

  given_clear : (a : Answer A) → Follows ss a → Clear ss → (v : A) × (a ≡ ok v)
  given_clear (ok v) h c = (v, refl)
  given_clear (refused n i at) h c = absurd (not_clear ss n i at c h)

  pub by_table : (a : Answer A) → Follows ss a → ByTable a ss
  by_table a h =
      record {
        refuses = λ n i at. (λ e. subst (λ (x : Answer A). Follows ss x) e h, given_decided a h n i at);
        passes = (λ (v, e). subst (λ (x : Answer A). Follows ss x) e h, given_clear a h);
      }
