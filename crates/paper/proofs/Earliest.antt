-- Tests at one index after another: the first that fails has the earliest place, so its fault wins.
use Prim.Native.Nat.{ℕ, zero, suc, ◌+◌, ◌≤◌, ◌<◌}
use native.Mathlib.Decide.{dec_lt, ℕ_discrete}
use native.Mathlib.Omega.{arith}
use mathlib.Core.Path.{◌≡◌, refl, sym, ap, subst, ◌∙◌}
use mathlib.Core.Logic.{inl, inr}
use mathlib.Core.Bool.{Bool, true, false}
use Rattle.paper.specs.Answers.{Input, Answer, ok, refused, ◌>>=◌, require, in_turn}
use Rattle.paper.specs.Faults.{Faults}
use Rattle.paper.specs.Table.{Sooner}
use Rattle.paper.proofs.StagesInOrder.{Tells}

-- faults stand at the places of indices, which rise
pub record Indexed (F : Faults) (total : ℕ) (place : ℕ → ℕ) : Type 0 where
  pub index : (n at : ℕ) → F n at → (k : ℕ) × (k < total) × (at ≡ place k)
  pub rises : (j k : ℕ) → j < k → place j < place k

module _ (i : Input) (F : Faults) (total : ℕ) (place : ℕ → ℕ) (indexed : Indexed F total place) where
  -- what a test says of the faults at its index
  abbrev pub TellsAt : ℕ → Answer (Unit {0}) → Type 0
  TellsAt k (ok _) = (n : ℕ) → ¬ F n (place k)
  TellsAt k (refused n j at) = (j ≡ i) × (at ≡ place k) × F n (place k) × ((m : ℕ) → F m (place k) → n ≤ m)

  -- of a test with one number
  pub test_tells_at : (k n : ℕ) (b : Bool) → (b ≡ true → (m : ℕ) → ¬ F m (place k)) → (b ≡ false → F n (place k))
      → ((m at : ℕ) → F m at → m ≡ n) → TellsAt k (require b n i (place k))
  test_tells_at k n true free fault only = free refl
  test_tells_at k n false free fault only = (refl, refl, fault refl, λ m h. omega (arith, only m (place k) h))

  FreeBefore : ℕ → Type 0
  FreeBefore k = (j : ℕ) → j < k → (n : ℕ) → ¬ F n (place j)

  free_next : (k : ℕ) → FreeBefore k → ((n : ℕ) → ¬ F n (place k)) → FreeBefore (suc k)
  unfolding FreeBefore
  free_next k before here j l = go (ℕ_discrete j k)
    where
      go : Dec (j ≡ k) → (n : ℕ) → ¬ F n (place j)
      go (yes e) = rw e here
      go (no d) = before j (omega arith)

  -- no fault has an earlier place than that of index k
  not_earlier : (k n m to : ℕ) → FreeBefore k → ((m : ℕ) → F m (place k) → n ≤ m) → F m to → Sooner n (place k) m to
  unfolding FreeBefore
  not_earlier k n m to before low h = go (indexed.index m to h)
    where
      go : (j : ℕ) × (j < total) × (to ≡ place j) → Sooner n (place k) m to
      go (j, l, e) = by (ℕ_discrete j k) (dec_lt j k)
        where
          there : F m (place j)
          there = subst (F m) e h

          by : Dec (j ≡ k) → Dec (j < k) → Sooner n (place k) m to
          by (yes same) d = inr (ap place (sym same) ∙ sym e, low m (subst (λ x. F m (place x)) same there))
          by (no other) (yes less) = absurd (before j less m there)
          by (no other) (no more) = inl (rw e (indexed.rises k j (omega arith)))

  tells_from : (test : ℕ → Answer (Unit {0})) → ((k : ℕ) → k < total → TellsAt k (test k)) → (n k : ℕ) → k + n ≡ total → FreeBefore k
      → Tells i F (in_turn test k n)
  unfolding FreeBefore
  tells_from test each zero k whole before = λ n at h.
      let (j, l, e) = indexed.index n at h in
      before j (omega arith) n (subst (F n) e h)
  tells_from test each (suc n) k whole before = go (test k) (each k (omega arith)) (tells_from test each n (suc k) (omega arith))
    where
      go : (a : Answer (Unit {0})) → TellsAt k a → (FreeBefore (suc k) → Tells i F (in_turn test (suc k) n))
          → Tells i F (a >>= λ _. in_turn test (suc k) n)
      go (ok _) here later = later (free_next k before here)
      go (refused m j at) (same-input, same_place, fault, low) later = (
        same-input,
        record { fault = rw same_place fault; first = λ o to h. rw same_place (not_earlier k m o to before low h) },
      )

  pub tests_tell : (test : ℕ → Answer (Unit {0})) → ((k : ℕ) → k < total → TellsAt k (test k)) → Tells i F (in_turn test 0 total)
  unfolding FreeBefore
  tests_tell test each = tells_from test each total 0 (omega arith) (λ j l. absurd (omega arith))
