-- Laws of a walk, whatever it holds: one walk seen through another, a walk of a sum of sequences, and how much an instruction leaves.
use Prim.Native.Nat.{ℕ, suc, ◌+◌, ◌≤◌}
use native.Mathlib.Nat.{add-zero}
use native.Mathlib.Omega.{arith}
use mathlib.Core.Path.{◌≡◌, refl, sym, subst, ◌∙◌}
use mathlib.Core.Bool.{Bool, true, false}
use mathlib.Core.Option
use mathlib.Core.Option.{Option, none, some, some-injective, none-ne-some}
use mathlib.Core.List.{List, [], ◌∷◌, ◌++◌, map}
use lib.ListN.{length, length-map}
use lib.Dec.{ltb}
use borrow.Author.Tests.{ltb-true}
use Rattle.paper.specs.Types.{when}
use Rattle.paper.specs.Code.{Action, leaves, takes_one, takes_two, most_held, put, act, Walk, fails, ends, go_on, walk}
use Rattle.paper.specs.LoadedBlocksRun.{seen_by}
use Rattle.paper.proofs.Basics.{map_when}

-- one walk seen through another, along a map of what they hold

module _ {A B : Type 0} (g : A → B) where
  -- an action that does on images what another does
  abbrev pub Follows : Action B → Action A → Type 0
  Follows (leaves o) (leaves p) = o ≡ Option.map g p
  Follows (leaves o) (takes_one f) = ⊥
  Follows (leaves o) (takes_two f) = ⊥
  Follows (takes_one h) (leaves p) = ⊥
  Follows (takes_one h) (takes_one f) = (a : A) → h (g a) ≡ Option.map g (f a)
  Follows (takes_one h) (takes_two f) = ⊥
  Follows (takes_two h) (leaves p) = ⊥
  Follows (takes_two h) (takes_one f) = ⊥
  Follows (takes_two h) (takes_two f) = (a b : A) → h (g a) (g b) ≡ Option.map g (f a b)

  put_follows : (o : Option A) (s : List A) → put (Option.map g o) (map g s) ≡ Option.map (map g) (put o s)
  put_follows none s = refl
  put_follows (some a) s = rw length-map (map_when (map g) (ltb (length s) most_held) (a ∷ s))

  pub act_follows : (u : Action B) (v : Action A) → Follows u v → (s : List A) → act u (map g s) ≡ Option.map (map g) (act v s)
  act_follows (leaves o) (leaves p) h s = rw h (put_follows p s)
  act_follows (leaves o) (takes_one f) h s = absurd h
  act_follows (leaves o) (takes_two f) h s = absurd h
  act_follows (takes_one k) (leaves p) h s = absurd h
  act_follows (takes_one k) (takes_one f) h [] = refl
  act_follows (takes_one k) (takes_one f) h (a ∷ s) = rw (h a) (put_follows (f a) s)
  act_follows (takes_one k) (takes_two f) h s = absurd h
  act_follows (takes_two k) (leaves p) h s = absurd h
  act_follows (takes_two k) (takes_one f) h s = absurd h
  act_follows (takes_two k) (takes_two f) h [] = refl
  act_follows (takes_two k) (takes_two f) h (b ∷ []) = refl
  act_follows (takes_two k) (takes_two f) h (b ∷ a ∷ s) = rw (h a b) (put_follows (f a b) s)

  go_follows : (i : ℕ) (o : Option (List A)) (w : List B → Walk B) (w' : List A → Walk A)
      → ((s : List A) → w (map g s) ≡ seen_by g (w' s)) → go_on i (Option.map (map g) o) w ≡ seen_by g (go_on i o w')
  go_follows i none w w' h = refl
  go_follows i (some s) w w' h = h s

  pub walk_follows : {C : Type 0} (u : C → Action B) (v : C → Action A) → ((c : C) → Follows (u c) (v c)) → (code : List C) (i : ℕ) (s : List A)
      → walk i (map u code) (map g s) ≡ seen_by g (walk i (map v code) s)
  unfolding walk
  walk_follows u v h [] i s = refl
  walk_follows u v h (c ∷ code) i s =
      rw (act_follows (u c) (v c) (h c) s) (go_follows i (act (v c) s) _ _ (walk_follows u v h code (i + 1)))

-- a walk of one sequence and then another

abbrev pub on_walk : {A : Type 0} → Walk A → (List A → Walk A) → Walk A
on_walk (fails i) go = fails i
on_walk (ends held) go = go held

go_on_walk : {A : Type 0} (i : ℕ) (o : Option (List A)) (w w' : List A → Walk A) (k : List A → Walk A)
    → ((s : List A) → w s ≡ on_walk (w' s) k) → go_on i o w ≡ on_walk (go_on i o w') k
go_on_walk i none w w' k h = refl
go_on_walk i (some s) w w' k h = h s

pub walk_append : {A : Type 0} (xs ys : List (Action A)) (i : ℕ) (s : List A)
    → walk i (xs ++ ys) s ≡ on_walk (walk i xs s) (walk (i + length xs) ys)
unfolding walk
walk_append [] ys i s = rw add-zero
walk_append (x ∷ xs) ys i s =
    let e : i + 1 + length xs ≡ i + suc (length xs) = omega arith in
    rw (← e) (go_on_walk i (act x s) _ _ _ (walk_append xs ys (i + 1)))

-- what a walk that ends has after a front part
pub walk_front : {A : Type 0} (xs ys : List (Action A)) (i : ℕ) (s t : List A)
    → walk i (xs ++ ys) s ≡ ends t → (u : List A) × (walk i xs s ≡ ends u)
walk_front {A} xs ys i s t e = go (walk i xs s) (sym (walk_append xs ys i s) ∙ e)
  where
    go : (w : Walk A) → on_walk w (walk (i + length xs) ys) ≡ ends t → (u : List A) × (w ≡ ends u)
    go (fails j) h = absurd (let z : ◌≡◌ {A = ℕ} 0 1 = cc in omega arith)
    go (ends u) h = (u, refl)

-- where it begins to count matters only where it fails
pub walk_anywhere : {A : Type 0} (xs : List (Action A)) (i j : ℕ) (s t : List A) → walk i xs s ≡ ends t → walk j xs s ≡ ends t
unfolding walk
walk_anywhere [] i j s t h = h
walk_anywhere {A} (x ∷ xs) i j s t h = go (act x s) h (λ u. walk_anywhere xs (i + 1) (j + 1) u t)
  where
    go : (o : Option (List A)) → go_on i o (walk (i + 1) xs) ≡ ends t
        → ((u : List A) → walk (i + 1) xs u ≡ ends t → walk (j + 1) xs u ≡ ends t) → go_on j o (walk (j + 1) xs) ≡ ends t
    go none e later = absurd (let z : ◌≡◌ {A = ℕ} 0 1 = cc in omega arith)
    go (some u) e later = later u e

-- how much an instruction leaves: at most 384

put_few : {A : Type 0} (o : Option A) (s t : List A) → put o s ≡ some t → length t ≤ most_held
put_few none s t h = absurd (none-ne-some t h)
put_few {A} (some a) s t h = go (ltb (length s) most_held) refl h
  where
    go : (b : Bool) → ltb (length s) most_held ≡ b → when b (a ∷ s) ≡ some t → length t ≤ most_held
    go true e h = subst (λ u. length u ≤ most_held) (some-injective (a ∷ s) t h) (ltb-true (length s) most_held e)
    go false e h = absurd (none-ne-some t h)

pub act_few : {A : Type 0} (x : Action A) (s t : List A) → act x s ≡ some t → length t ≤ most_held
act_few (leaves o) s t h = put_few o s t h
act_few (takes_one f) [] t h = absurd (none-ne-some t h)
act_few (takes_one f) (a ∷ s) t h = put_few (f a) s t h
act_few (takes_two f) [] t h = absurd (none-ne-some t h)
act_few (takes_two f) (b ∷ []) t h = absurd (none-ne-some t h)
act_few (takes_two f) (b ∷ a ∷ s) t h = put_few (f a b) s t h
