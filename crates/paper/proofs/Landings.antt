-- Code that passes the load check: each instruction acts on the types before it, and a skip finds at its landing the types that it left.
use Prim.Native.Nat.{ℕ, ◌+◌}
use native.Mathlib.Omega.{arith}
use mathlib.Core.Path.{◌≡◌, refl, sym, ap, ◌∙◌}
use mathlib.Core.Bool.{Bool, true, false, cond, and-eq-true_iff, false≢true}
use mathlib.Core.Option.{Option, none, some}
use mathlib.Core.List.{List, [], ◌∷◌, ◌++◌, map, map-append}
use lib.ListN.{take, drop, take-append-drop}
use Rattle.paper.specs.Keys.{Key}
use Rattle.paper.specs.Types.{Ty, same_ty}
use Rattle.paper.specs.Code.{Skip, Instruction, Action, act, Walk, fails, ends, go_on, walk, type_action, action_of, skip_of}
use Rattle.paper.specs.Loading.{same_types, same_at, lands_well, check_from}
use Rattle.paper.proofs.MeetingTypes.{same_types_lem, same_self}
use Rattle.paper.proofs.Walks.{walk_front}

-- equal types held

pub same_held : (s t : List Ty) → same_types s t ≡ true → s ≡ t
same_held [] [] h = refl
same_held [] (b ∷ t) h = absurd (false≢true h)
same_held (a ∷ s) [] h = absurd (false≢true h)
same_held (a ∷ s) (b ∷ t) h =
    let p = (and-eq-true_iff (same_ty a b) (same_types s t)).0 h in
    rw (same_types_lem a b p.0, same_held s t p.1)

pub held_same : (s : List Ty) → same_types s s ≡ true
held_same [] = refl
held_same (a ∷ s) = rw (same_self a, held_same s)

-- a walk ends or fails, and holds one thing at its end

pub ends_same : {A : Type 0} {s t : List A} → ends s ≡ ends t → s ≡ t
ends_same {A} {s} {t} h = ap held_of h
  where
    held_of : Walk A → List A
    held_of (fails i) = t
    held_of (ends u) = u

pub never_ends : {A : Type 0} {i : ℕ} {t : List A} → fails i ≡ ends t → ⊥
never_ends {A} {i} {t} z = let o : ◌≡◌ {A = ℕ} 0 1 = cc in omega arith

module _ (ks : List Key) where
  abbrev pub on_types : Option Instruction → Action Ty
  on_types x = action_of (type_action ks) x

  -- what stands after an instruction of code that passes
  pub record Passes (x : Option Instruction) (xs : List (Option Instruction)) (i : ℕ) (held t : List Ty) : Type 0 where
    pub later : List Ty
    pub acts : act (on_types x) held ≡ some later
    pub lands : lands_well ks (skip_of x) xs later ≡ true
    pub goes_on : check_from ks (i + 1) xs later ≡ ends t

  pub first_passes : (x : Option Instruction) (xs : List (Option Instruction)) (i : ℕ) (held t : List Ty)
      → check_from ks i (x ∷ xs) held ≡ ends t → Passes x xs i held t
  unfolding check_from
  first_passes x xs i held t h = go (act (on_types x) held) refl h
    where
      landed : (later : List Ty) → act (on_types x) held ≡ some later → (b : Bool) → lands_well ks (skip_of x) xs later ≡ b
          → cond b (check_from ks (i + 1) xs later) (fails i) ≡ ends t → Passes x xs i held t
      landed later e true l p = record { later = later; acts = e; lands = l; goes_on = p }
      landed later e false l p = absurd (never_ends p)

      go : (o : Option (List Ty)) → act (on_types x) held ≡ o
          → go_on i o (λ later. cond (lands_well ks (skip_of x) xs later) (check_from ks (i + 1) xs later) (fails i)) ≡ ends t
          → Passes x xs i held t
      go none e p = absurd (never_ends p)
      go (some later) e p = landed later e (lands_well ks (skip_of x) xs later) refl p

  -- code that passes does so without its landings
  pub check_walks : (xs : List (Option Instruction)) (i j : ℕ) (held t : List Ty) → check_from ks i xs held ≡ ends t
      → walk j (map on_types xs) held ≡ ends t
  unfolding check_from walk
  check_walks [] i j held t h = h
  check_walks (x ∷ xs) i j held t h =
      let p = first_passes x xs i held t h in
      rw p.acts (check_walks xs (i + 1) (j + 1) p.later t p.goes_on)

  -- at its landing a skip finds the types that it left
  pub landing : (s : Skip) (xs : List (Option Instruction)) (i : ℕ) (held t : List Ty) → lands_well ks (some s) xs held ≡ true
      → check_from ks i xs held ≡ ends t → walk 0 (map on_types (take s.over xs)) held ≡ ends held
  landing s xs i held t l h =
      let front = take s.over xs in
      let rest = drop s.over xs in
      let through : walk 0 (map on_types (front ++ rest)) held ≡ ends t = rw (take-append-drop s.over xs) (check_walks xs i 0 held t h) in
      let there = walk_front (map on_types front) (map on_types rest) 0 held t (rw (← map-append on_types front rest) through) in
      let same : same_types held there.0 ≡ true = sym (ap (same_at held) there.1) ∙ l in
      there.1 ∙ ap (λ v. ends v) (sym (same_held held there.0 same))
