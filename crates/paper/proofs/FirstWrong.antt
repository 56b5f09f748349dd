-- Where the load check fails. An instruction is wrong that does not act on what the ones before it leave, or that is a skip which finds other
-- types at its landing. The check fails at the first wrong one (`check_told`, by induction along the code: both look at the same action and
-- the same landing, and go on with what is left), and ends where none is wrong.
use Prim.Native.Nat.{ℕ, zero, suc, ◌+◌, ◌≤◌, ◌<◌, suc-le-suc}
use native.Mathlib.Nat.{add-zero}
use native.Mathlib.Omega.{arith}
use mathlib.Core.Path.{◌≡◌, refl, sym, ap, subst, ◌∙◌}
use mathlib.Core.Bool.{Bool, true, false, cond, true≢false}
use mathlib.Core.Option.{Option, none, some}
use mathlib.Core.List.{List, [], ◌∷◌, ◌++◌, map}
use lib.ListN.{length}
use Rattle.paper.specs.Keys.{Key}
use Rattle.paper.specs.Types.{Ty}
use Rattle.paper.specs.Code.{Instruction, act, Walk, fails, ends, go_on, walk, skip_of}
use Rattle.paper.specs.Loading.{lands_well, check_from}
use Rattle.paper.proofs.Landings.{ends_same, never_ends, on_types}

-- the first index that has a property, of a way that fails at a place
pub record FirstAt (P : ℕ → Type 0) (i at : ℕ) : Type 0 where
  pub index : ℕ
  pub place : at ≡ i + index
  pub has : P index
  pub first : (k : ℕ) → P k → index ≤ k

-- a way fails at the first index that has it, or ends, and none has it
abbrev pub Told : (ℕ → Type 0) → ℕ → Walk Ty → Type 0
Told P i (fails at) = FirstAt P i at
Told P i (ends held) = (k : ℕ) → ¬ P k

-- of the first instruction, by what it leaves, and of those after it
abbrev Either : (Option (List Ty) → Type 0) → (List Ty → ℕ → Type 0) → Option (List Ty) → ℕ → Type 0
Either here later o zero = here o
Either here later none (suc k) = ⊥
Either here later (some s) (suc k) = later s k

module _ (ks : List Key) where
  -- an instruction that leaves so much, or does not act, before these
  abbrev pub WrongHere : Option Instruction → List (Option Instruction) → Option (List Ty) → Type 0
  WrongHere x rest none = Unit {0}
  WrongHere x rest (some later) = lands_well ks (skip_of x) rest later ≡ false

  -- the instruction of an index, where all before it act
  abbrev pub Wrong : List (Option Instruction) → List Ty → ℕ → Type 0
  Wrong [] from k = ⊥
  Wrong (x ∷ xs) from k = Either (WrongHere x xs) (Wrong xs) (act (on_types ks x) from) k

  pub check_told : (code : List (Option Instruction)) (i : ℕ) (from : List Ty)
      → Told (Wrong code from) i (check_from ks i code from)
  unfolding check_from
  check_told [] i from = λ k h. h
  check_told (x ∷ xs) i from = go (act (on_types ks x) from) (check_told xs (i + 1))
    where
      go : (o : Option (List Ty)) → ((s : List Ty) → Told (Wrong xs s) (i + 1) (check_from ks (i + 1) xs s))
          → Told (Either (WrongHere x xs) (Wrong xs) o) i
          (go_on i o (λ later. cond (lands_well ks (skip_of x) xs later) (check_from ks (i + 1) xs later) (fails i)))
      go none later = record { index = 0; place = sym (add-zero i); has = tt; first = λ k h. omega arith }
      go (some s) later = lands (lands_well ks (skip_of x) xs s) refl
        where
          onward : lands_well ks (skip_of x) xs s ≡ true → (w : Walk Ty) → Told (Wrong xs s) (i + 1) w
              → Told (Either (WrongHere x xs) (Wrong xs) (some s)) i w
          onward fits (fails at) h = record { index = suc h.index; place = omega (arith, h.place); has = h.has; first = least }
            where
              least : (k : ℕ) → Either (WrongHere x xs) (Wrong xs) (some s) k → suc h.index ≤ k
              least zero f = absurd (true≢false (sym fits ∙ f))
              least (suc k) f = suc-le-suc (h.first k f)
          onward fits (ends held) h = none_wrong
            where
              none_wrong : (k : ℕ) → ¬ Either (WrongHere x xs) (Wrong xs) (some s) k
              none_wrong zero f = true≢false (sym fits ∙ f)
              none_wrong (suc k) f = h k f

          lands : (b : Bool) → lands_well ks (skip_of x) xs s ≡ b
              → Told (Either (WrongHere x xs) (Wrong xs) (some s)) i (cond b (check_from ks (i + 1) xs s) (fails i))
          lands true e = onward e (check_from ks (i + 1) xs s) (later s)
          lands false e = record { index = 0; place = sym (add-zero i); has = e; first = λ k h. omega arith }

  -- An index splits the code

  pub record Stands (code : List (Option Instruction)) (i : ℕ) (from : List Ty) (k : ℕ) : Type 0 where
    pub front : List (Option Instruction)
    pub this : Option Instruction
    pub rest : List (Option Instruction)
    pub holds : List Ty
    pub split : code ≡ front ++ (this ∷ rest)
    pub index : length front ≡ k
    pub upto : walk i (map (on_types ks) front) from ≡ ends holds
    pub wrong : WrongHere this rest (act (on_types ks this) holds)

  pub stands : (code : List (Option Instruction)) (i : ℕ) (from : List Ty) (k : ℕ) → Wrong code from k → Stands code i from k
  unfolding walk
  stands [] i from k h = absurd h
  stands (x ∷ xs) i from zero h =
      record { front = []; this = x; rest = xs; holds = from; split = refl; index = refl; upto = refl; wrong = h }
  stands (x ∷ xs) i from (suc k) h = go (act (on_types ks x) from) refl h (λ s. stands xs (i + 1) s k)
    where
      go : (o : Option (List Ty)) → act (on_types ks x) from ≡ o → Either (WrongHere x xs) (Wrong xs) o (suc k)
          → ((s : List Ty) → Wrong xs s k → Stands xs (i + 1) s k) → Stands (x ∷ xs) i from (suc k)
      go none e h later = absurd h
      go (some s) e h later =
          let r = later s h in
          record {
            front = x ∷ r.front;
            this = r.this;
            rest = r.rest;
            holds = r.holds;
            split = ap (λ l. x ∷ l) r.split;
            index = ap suc r.index;
            upto = ap (λ o. go_on i o (walk (i + 1) (map (on_types ks) r.front))) e ∙ r.upto;
            wrong = r.wrong;
          }

  pub wrong_there : (front : List (Option Instruction)) (x : Option Instruction) (rest : List (Option Instruction)) (i : ℕ) (from held : List Ty)
      → walk i (map (on_types ks) front) from ≡ ends held → WrongHere x rest (act (on_types ks x) held)
      → Wrong (front ++ (x ∷ rest)) from (length front)
  unfolding walk
  wrong_there [] x rest i from held upto h = subst (λ s. WrongHere x rest (act (on_types ks x) s)) (sym (ends_same upto)) h
  wrong_there (y ∷ front) x rest i from held upto h = go (act (on_types ks y) from) upto (λ s e. wrong_there front x rest (i + 1) s held e h)
    where
      go : (o : Option (List Ty)) → go_on i o (walk (i + 1) (map (on_types ks) front)) ≡ ends held
          → ((s : List Ty) → walk (i + 1) (map (on_types ks) front) s ≡ ends held → Wrong (front ++ (x ∷ rest)) s (length front))
          → Either (WrongHere y (front ++ (x ∷ rest))) (Wrong (front ++ (x ∷ rest))) o (suc (length front))
      go none e later = absurd (never_ends e)
      go (some s) e later = later s e

  pub wrong_below : (code : List (Option Instruction)) (from : List Ty) (k : ℕ) → Wrong code from k → k < length code
  wrong_below [] from k h = absurd h
  wrong_below (x ∷ xs) from zero h = omega arith
  wrong_below (x ∷ xs) from (suc k) h = go (act (on_types ks x) from) h (λ s. wrong_below xs s k)
    where
      go : (o : Option (List Ty)) → Either (WrongHere x xs) (Wrong xs) o (suc k) → ((s : List Ty) → Wrong xs s k → k < length xs)
          → suc k < suc (length xs)
      go none h later = absurd h
      go (some s) h later = suc-le-suc (later s h)
