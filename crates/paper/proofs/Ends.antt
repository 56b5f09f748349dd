-- No sequence that leaves one value from nothing ends with another such sequence: behind any instruction something is held, and how much is
-- held at the end follows from how much is left and taken. So from its end code is read in one way only.
use Prim.Native.Nat.{ℕ, suc, ◌+◌, ◌≤◌}
use native.Mathlib.Omega.{arith}
use mathlib.Core.Path.{◌≡◌, refl, sym, ap, ap₂, subst, ◌∙◌}
use mathlib.Core.Logic.{◌⊎◌, inl, inr}
use mathlib.Core.Bool.{Bool, true, false}
use mathlib.Core.Option.{Option, none, some, none-ne-some, some-injective}
use mathlib.Core.List.{List, [], ◌∷◌, ◌++◌, head-eq_of_cons-eq, tail-eq_of_cons-eq}
use lib.ListN.{length}
use lib.Dec.{ltb}
use Rattle.paper.specs.Types.{when}
use Rattle.paper.specs.Code.{Action, leaves, takes_one, takes_two, most_held, put, act, Walk, fails, ends, go_on, walk}
use Rattle.paper.proofs.Walks.{on_walk, walk_append}
use Rattle.paper.proofs.Landings.{ends_same, never_ends}

module _ {A : Type 0} where
  -- what an action leaves beyond what it takes, and takes beyond what it leaves

  abbrev up : Action A → ℕ
  up (leaves o) = 1
  up (takes_one f) = 0
  up (takes_two f) = 0

  abbrev down : Action A → ℕ
  down (leaves o) = 0
  down (takes_one f) = 0
  down (takes_two f) = 1

  abbrev ups : List (Action A) → ℕ
  ups [] = 0
  ups (x ∷ xs) = up x + ups xs

  abbrev downs : List (Action A) → ℕ
  downs [] = 0
  downs (x ∷ xs) = down x + downs xs

  ups_append : (xs ys : List (Action A)) → ups (xs ++ ys) ≡ ups xs + ups ys
  ups_append [] ys = omega arith
  ups_append (x ∷ xs) ys = omega (arith, ups_append xs ys)

  downs_append : (xs ys : List (Action A)) → downs (xs ++ ys) ≡ downs xs + downs ys
  downs_append [] ys = omega arith
  downs_append (x ∷ xs) ys = omega (arith, downs_append xs ys)

  -- behind an action

  record Moved (x : Action A) (before after : List A) : Type 0 where
    some_held : 1 ≤ length after
    height : length after + down x ≡ length before + up x

  one_more : (o : Option A) (held after : List A) → put o held ≡ some after → length after ≡ suc (length held)
  one_more none held after h = absurd (none-ne-some after h)
  one_more (some a) held after h = go (ltb (length held) most_held) h
    where
      go : (b : Bool) → when b (a ∷ held) ≡ some after → length after ≡ suc (length held)
      go true e = sym (ap length (some-injective (a ∷ held) after e))
      go false e = absurd (none-ne-some after e)

  moved : (x : Action A) (held after : List A) → act x held ≡ some after → Moved x held after
  moved (leaves o) held after h = let k = one_more o held after h in record { some_held = omega (arith, k); height = omega (arith, k) }
  moved (takes_one f) [] after h = absurd (none-ne-some after h)
  moved (takes_one f) (a ∷ held) after h =
      let k = one_more (f a) held after h in
      record { some_held = omega (arith, k); height = omega (arith, k) }
  moved (takes_two f) [] after h = absurd (none-ne-some after h)
  moved (takes_two f) (b ∷ []) after h = absurd (none-ne-some after h)
  moved (takes_two f) (b ∷ a ∷ held) after h =
      let k = one_more (f a b) held after h in
      record { some_held = omega (arith, k); height = omega (arith, k) }

  -- behind a walk: how much is held, and something where there was before

  record Walked (xs : List (Action A)) (before after : List A) : Type 0 where
    height : length after + downs xs ≡ length before + ups xs
    still : 1 ≤ length before → 1 ≤ length after

  walked : (xs : List (Action A)) (i : ℕ) (held after : List A) → walk i xs held ≡ ends after → Walked xs held after
  unfolding walk
  walked [] i held after h =
      let same : held ≡ after = ends_same h in
      record { height = omega (arith, ap length same); still = λ s. omega (arith, ap length same, s) }
  walked (x ∷ xs) i held after h = go (act x held) refl h (λ mid. walked xs (i + 1) mid after)
    where
      go : (o : Option (List A)) → act x held ≡ o → go_on i o (walk (i + 1) xs) ≡ ends after
          → ((mid : List A) → walk (i + 1) xs mid ≡ ends after → Walked xs mid after) → Walked (x ∷ xs) held after
      go none e p later = absurd (never_ends p)
      go (some mid) e p later =
          let m = moved x held mid e in
          let w = later mid p in
          record { height = omega (arith, m.height, w.height); still = λ s. w.still m.some_held }

  some_behind : (x : Action A) (xs : List (Action A)) (i : ℕ) (held after : List A) → walk i (x ∷ xs) held ≡ ends after → 1 ≤ length after
  unfolding walk
  some_behind x xs i held after h = go (act x held) refl h
    where
      go : (o : Option (List A)) → act x held ≡ o → go_on i o (walk (i + 1) xs) ≡ ends after → 1 ≤ length after
      go none e p = absurd (never_ends p)
      go (some mid) e p = (walked xs (i + 1) mid after p).still (moved x held mid e).some_held

  -- from nothing, one value

  abbrev pub LeavesOne : List (Action A) → Type 0
  LeavesOne xs = (a : A) × (walk 0 xs [] ≡ ends (a ∷ []))

  balanced : (xs : List (Action A)) → LeavesOne xs → 1 + downs xs ≡ ups xs
  balanced xs (a, h) = omega (arith, (walked xs 0 [] (a ∷ []) h).height)

  pub nothing_before : (p xs : List (Action A)) → LeavesOne (p ++ xs) → LeavesOne xs → p ≡ []
  nothing_before [] xs h g = refl
  nothing_before (x ∷ p) xs h g = absurd (go (walk 0 (x ∷ p) []) refl (sym (walk_append (x ∷ p) xs 0 []) ∙ h.1))
    where
      go : (w : Walk A) → walk 0 (x ∷ p) [] ≡ w → on_walk w (walk (0 + length (x ∷ p)) xs) ≡ ends (h.0 ∷ []) → ⊥
      go (fails i) e f = never_ends f
      go (ends mid) e f =
          omega (
            arith,
            (walked (x ∷ p) 0 [] mid e).height,
            some_behind x p 0 [] mid e,
            balanced ((x ∷ p) ++ xs) h,
            balanced xs g,
            downs_append (x ∷ p) xs,
            ups_append (x ∷ p) xs,
          )

-- two ways to cut a list

module _ {A : Type 0} where
  -- the end of the one cut is an end of the other's
  abbrev EndsWith : List A → List A → List A → List A → Type 0
  EndsWith r d s e = (p : List A) × (d ≡ p ++ e) × (r ++ p ≡ s)

  cuts : (r d s e : List A) → r ++ d ≡ s ++ e → EndsWith r d s e ⊎ EndsWith s e r d
  cuts [] d s e h = inl (s, h, refl)
  cuts (x ∷ r) d [] e h = inr (x ∷ r, sym h, refl)
  cuts (x ∷ r) d (y ∷ s) e h = go (cuts r d s e (tail-eq_of_cons-eq h))
    where
      same : x ≡ y
      same = head-eq_of_cons-eq h

      go : EndsWith r d s e ⊎ EndsWith s e r d → EndsWith (x ∷ r) d (y ∷ s) e ⊎ EndsWith (y ∷ s) e (x ∷ r) d
      go (inl (p, a, b)) = inl (p, a, ap₂ ◌∷◌ same b)
      go (inr (p, a, b)) = inr (p, a, ap₂ ◌∷◌ (sym same) b)

  -- where no end has another before it, there is one
  pub one_end : (Whole : List A → Type 0) → ((p x : List A) → Whole (p ++ x) → Whole x → p ≡ []) → (r d s e : List A) → Whole d → Whole e
      → r ++ d ≡ s ++ e → d ≡ e
  one_end Whole alone r d s e g f h = go (cuts r d s e h)
    where
      go : EndsWith r d s e ⊎ EndsWith s e r d → d ≡ e
      go (inl (p, a, b)) = a ∙ ap (λ (x : List A). x ++ e) (alone p e (subst Whole a g) f)
      go (inr (p, a, b)) = sym (a ∙ ap (λ (x : List A). x ++ d) (alone p d (subst Whole a f) g))
