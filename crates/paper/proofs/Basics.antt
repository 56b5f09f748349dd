-- Small laws of tests, of what may be missing, and of what each element of a list has.
use Prim.Native.Nat.{ℕ, zero, suc, ◌<◌, suc-le-suc}
use native.Mathlib.Nat.{not-suc-le-zero, le_of_suc-le-suc}
use native.Mathlib.Omega.{arith}
use mathlib.Core.Path.{◌≡◌, refl, ap₂, subst}
use mathlib.Core.Logic.{◌⊎◌, inl, inr}
use mathlib.Core.Bool.{Bool, true, false, ◌&&◌, and-eq-true_iff}
use mathlib.Core.Option
use mathlib.Core.Option.{Option, none, some, none-ne-some}
use mathlib.Core.List.{List, [], ◌∷◌, ◌++◌, map}
use lib.ListN.{length, get_or, get_elem?}
use Rattle.paper.specs.Types.{when, and_then}
use Rattle.paper.specs.BlocksRoundTrip.{All}

-- tests

pub and_false : (b : Bool) → b && false ≡ false
and_false true = refl
and_false false = refl

pub and_right : (a b : Bool) → a && b ≡ true → b ≡ true
and_right a b h = ((and-eq-true_iff a b).0 h).1

pub either_false : (a b : Bool) → a && b ≡ false → (a ≡ false) ⊎ (b ≡ false)
either_false true b h = inr h
either_false false b h = inl refl

-- what may be missing

pub map_when : {A B : Type 0} (f : A → B) (b : Bool) (a : A) → when b (f a) ≡ Option.map f (when b a)
map_when f true a = refl
map_when f false a = refl

pub map_then : {A B : Type 0} (f : A → B) (o : Option A) → Option.map f o ≡ and_then o (λ a. some (f a))
map_then f none = refl
map_then f (some a) = refl

-- a property of what is there, if anything is
abbrev pub If : {A : Type 0} → (A → Type 0) → Option A → Type 0
If P none = Unit {0}
If P (some a) = P a

pub if_then : {A B : Type 0} (P : A → Type 0) (Q : B → Type 0) (o : Option A) (f : A → Option B) → If P o → ((a : A) → P a → If Q (f a))
    → If Q (and_then o f)
if_then P Q none f h k = tt
if_then P Q (some a) f h k = k a h

pub any : {A : Type 0} (o : Option A) → If (λ _. Unit {0}) o
any none = tt
any (some a) = tt

pub if_when : {A : Type 0} (P : A → Type 0) (b : Bool) (a : A) → P a → If P (when b a)
if_when P true a h = h
if_when P false a h = tt

-- each element of a list

pub all_append : {A : Type 0} (P : A → Type 0) (xs ys : List A) → All P xs → All P ys → All P (xs ++ ys)
all_append P [] ys h k = k
all_append P (x ∷ xs) ys h k = (h.0, all_append P xs ys h.1 k)

pub all_parts : {A : Type 0} (P : A → Type 0) (xs ys : List A) → All P (xs ++ ys) → All P xs × All P ys
all_parts P [] ys h = (tt, h)
all_parts P (x ∷ xs) ys h = let rest = all_parts P xs ys h.1 in ((h.0, rest.0), rest.1)

pub some_below : {A : Type 0} (xs : List A) (i : ℕ) (x : A) → get_elem? xs i ≡ some x → i < length xs
some_below [] i x h = absurd (none-ne-some x h)
some_below (y ∷ xs) zero x h = omega arith
some_below (y ∷ xs) (suc i) x h = suc-le-suc (some_below xs i x h)

pub all_at : {A : Type 0} (P : A → Type 0) (xs : List A) (d : A) → All P xs → (i : ℕ) → i < length xs → P (get_or xs i d)
all_at P [] d h i l = absurd (not-suc-le-zero l)
all_at P (x ∷ xs) d h zero l = h.0
all_at P (x ∷ xs) d h (suc i) l = all_at P xs d h.1 i (le_of_suc-le-suc l)

pub all_some : {A : Type 0} (P : A → Type 0) (xs : List A) (i : ℕ) (x : A) → All P xs → get_elem? xs i ≡ some x → P x
all_some P [] i x h e = absurd (none-ne-some x e)
all_some P (y ∷ xs) zero x h e = let same : y ≡ x = cc in subst P same h.0
all_some P (y ∷ xs) (suc i) x h e = all_some P xs i x h.1 e

-- one of a list that is mapped, and two maps that agree on each

pub map_at : {A B : Type 0} (f : A → B) (xs : List A) (i : ℕ) (a : A) (b : B) → i < length xs → get_or (map f xs) i b ≡ f (get_or xs i a)
map_at f [] i a b l = absurd (not-suc-le-zero l)
map_at f (x ∷ xs) zero a b l = refl
map_at f (x ∷ xs) (suc i) a b l = map_at f xs i a b (le_of_suc-le-suc l)

pub map_same : {A B : Type 0} (P : A → Type 0) (f g : A → B) → ((a : A) → P a → f a ≡ g a) → (xs : List A) → All P xs → map f xs ≡ map g xs
map_same P f g same [] h = refl
map_same {B = B} P f g same (x ∷ xs) h = ap₂ (λ (y : B) (ys : List B). y ∷ ys) (same x h.0) (map_same P f g same xs h.1)
