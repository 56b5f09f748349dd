-- The way through a sequence of actions, from its start to each of its points: what is held there, and how the way goes on from it.
use Rattle.std.proofs.Common.{◌≡◌, ℕ, zero, suc, ◌+◌, ◌-◌, ◌<◌, ◌≤◌, List, [], ◌∷◌, ◌++◌, map, length, take, sym, refl, ap, ◌∙◌, ap₂, add-zero, arith}
use mathlib.Core.Option.{Option, none, some}
use Rattle.paper.specs.Code.{Instruction, parts_at, decode, Action, act, Walk, fails, ends, go_on, walk}
use Rattle.paper.specs.Loading.{instruction_at, instructions_from}
use Rattle.paper.proofs.Walks.{on_walk, walk_append}
use Rattle.paper.proofs.Landings.{ends_same, never_ends}

abbrev from : {A : Type 0} → (ℕ → Action A) → ℕ → ℕ → List (Action A)
from x i zero = []
from x i (suc k) = x i ∷ from x (i + 1) k

abbrev pub along : {A : Type 0} → (ℕ → Action A) → ℕ → ℕ → List A → Walk A
along x i k held = walk i (from x i k) held

-- the instructions of blocks, which are n, and their actions

abbrev pub read_at : List ℕ → ℕ → ℕ → Option Instruction
read_at blocks n i = decode (n - i - 1) (parts_at blocks (instruction_at i))

unfoldable pub action_at : {A : Type 0} → (Option Instruction → Action A) → List ℕ → ℕ → ℕ → Action A
action_at f blocks n i = f (read_at blocks n i)

pub of_blocks : {A : Type 0} (f : Option Instruction → Action A) (blocks : List ℕ) (n i k m : ℕ) → i + m ≡ n → k ≤ m
    → from (action_at f blocks n) i k ≡ map f (take k (instructions_from blocks i m))
unfolding action_at
of_blocks f blocks n i zero m e l = refl
of_blocks f blocks n i (suc k) zero e l = absurd (omega arith)
of_blocks f blocks n i (suc k) (suc m) e l =
    let left : n - i - 1 ≡ m = omega arith in
    ap₂ (λ j rest. f (decode j (parts_at blocks (instruction_at i))) ∷ rest) left
    (of_blocks f blocks n (i + 1) k m (omega arith) (omega arith))

-- an instruction that was read from them
pub at_blocks : {A : Type 0} (f : Option Instruction → Action A) (blocks : List ℕ) (n i : ℕ) {o : Option Instruction}
    → o ≡ read_at blocks n i → f o ≡ action_at f blocks n i
unfolding action_at
at_blocks f blocks n i e = ap f e

-- a way in two parts

from_split : {A : Type 0} (x : ℕ → Action A) (i a b : ℕ) → from x i (a + b) ≡ from x i a ++ from x (i + a) b
from_split x i zero b =
    let none_more : 0 + b ≡ b = omega arith in
    ap (from x i) none_more ∙ ap (λ j. from x j b) (sym (add-zero i))
from_split x i (suc a) b =
    let next : i + 1 + a ≡ i + suc a = omega arith in
    let one_more : suc a + b ≡ suc (a + b) = omega arith in
    ap (from x i) one_more ∙ ap (λ l. x i ∷ l) (from_split x (i + 1) a b ∙ ap (λ j. from x (i + 1) a ++ from x j b) next)

from_length : {A : Type 0} (x : ℕ → Action A) (i k : ℕ) → length (from x i k) ≡ k
from_length x i zero = refl
from_length x i (suc k) = ap suc (from_length x (i + 1) k)

along_split : {A : Type 0} (x : ℕ → Action A) (i m : ℕ) → along x 0 (i + m) [] ≡ on_walk (along x 0 i []) (along x i m)
along_split x i m =
    let here : 0 + i ≡ i = omega arith in
    ap (λ l. walk 0 l []) (from_split x 0 i m ∙ ap (λ j. from x 0 i ++ from x j m) here)
    ∙ walk_append (from x 0 i) (from x i m) 0 []
    ∙ ap (λ j. on_walk (along x 0 i []) (walk j (from x i m))) (ap (λ l. 0 + l) (from_length x 0 i) ∙ here)

-- a walk fails no earlier than it begins
pub late : {A : Type 0} (xs : List (Action A)) (i k : ℕ) (s : List A) → walk i xs s ≡ fails k → i ≤ k
unfolding walk
late [] i k s h = absurd (never_ends (sym h))
late {A} (x ∷ xs) i k s h = go (act x s) h (λ u. late xs (i + 1) k u)
  where
    go : (o : Option (List A)) → go_on i o (walk (i + 1) xs) ≡ fails k → ((u : List A) → walk (i + 1) xs u ≡ fails k → i + 1 ≤ k) → i ≤ k
    go none e more =
        let here : i ≡ k = cc in
        omega arith
    go (some u) e more = omega (arith, more u e)

-- a point of the way, where so much is held
module _ {A : Type 0} (x : ℕ → Action A) (i : ℕ) (held : List A) (there : along x 0 i [] ≡ ends held) where
  -- the way from it on is what is left of the whole
  pub along_part : (m : ℕ) → along x i m held ≡ along x 0 (i + m) []
  along_part m = sym (along_split x i m ∙ ap (λ w. on_walk w (along x i m)) there)

  -- the next point, by what the action there does
  pub along_next : (next : List A) → act (x i) held ≡ some next → along x 0 (i + 1) [] ≡ ends next
  unfolding walk
  along_next next a = sym (along_part 1) ∙ ap (λ o. go_on i o (λ s. walk (i + 1) [] s)) a

  pub along_fails : (n : ℕ) → i < n → act (x i) held ≡ none → along x 0 n [] ≡ fails i
  unfolding walk
  along_fails n more a =
      let all : i + suc (n - i - 1) ≡ n = omega arith in
      ap (λ k. along x 0 k []) (sym all) ∙ sym (along_part (suc (n - i - 1))) ∙ ap (λ o. go_on i o (along x (i + 1) (n - i - 1))) a

  -- and what the action does, by the next point
  pub along_acts : (next : List A) → along x 0 (i + 1) [] ≡ ends next → act (x i) held ≡ some next
  unfolding walk
  along_acts next h = go (act (x i) held) refl (along_part 1 ∙ h)
    where
      go : (o : Option (List A)) → act (x i) held ≡ o → go_on i o (λ s. walk (i + 1) [] s) ≡ ends next → act (x i) held ≡ some next
      go none e h = absurd (never_ends h)
      go (some u) e h = e ∙ ap (λ s. some s) (ends_same h)

  pub along_stops : (m : ℕ) → along x 0 (i + suc m) [] ≡ fails i → act (x i) held ≡ none
  unfolding walk
  along_stops m h = go (act (x i) held) refl (along_part (suc m) ∙ h)
    where
      go : (o : Option (List A)) → act (x i) held ≡ o → go_on i o (along x (i + 1) m) ≡ fails i → act (x i) held ≡ none
      go none e h = e
      go (some u) e h = absurd (omega (arith, late (from x (i + 1) m) (i + 1) i u h))
