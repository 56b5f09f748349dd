-- Tests at one index after another: they all pass exactly where each does, and how a loop goes through them.
use Prim.Native.Nat.{ℕ, zero, suc, ◌+◌, ◌-◌, ◌≤◌, ◌<◌}
use native.Mathlib.Nat.{add-zero}
use native.Mathlib.Numerals.{add-one}
use native.Mathlib.Omega.{arith}
use mathlib.Core.Path.{◌≡◌, refl}
use Rattle.paper.specs.Answers.{Input, Answer, ok, refused, in_turn}
use Rattle.paper.proofs.Stages.{bind_ok}

module _ (test : ℕ → Answer (Unit {0})) where
  each_from : (n k j : ℕ) → in_turn test k n ≡ ok tt → j < n → test (k + j) ≡ ok tt
  each_from zero k j h l = absurd (omega arith)
  each_from (suc n) k zero h l = rw (add-zero k) (bind_ok (test k) (λ _. in_turn test (suc k) n) tt h).1
  each_from (suc n) k (suc j) h l =
      let e : k + suc j ≡ suc k + j = omega arith in
      rw e (each_from n (suc k) j (bind_ok (test k) (λ _. in_turn test (suc k) n) tt h).2 (omega arith))

  pub each_passes : (n : ℕ) → in_turn test 0 n ≡ ok tt → (k : ℕ) → k < n → test k ≡ ok tt
  each_passes n h k l = let e : 0 + k ≡ k = omega arith in rw e at (each_from n 0 k h l)

  all_from : (n k : ℕ) → ((j : ℕ) → j < k + n → test j ≡ ok tt) → in_turn test k n ≡ ok tt
  all_from zero k each = refl
  all_from (suc n) k each = rw (each k (omega arith)) (all_from n (suc k) (λ j l. each j (omega arith)))

  pub all_pass : (n : ℕ) → ((k : ℕ) → k < n → test k ≡ ok tt) → in_turn test 0 n ≡ ok tt
  all_pass n each = all_from n 0 (λ k l. each k (omega arith))

  -- a loop through n tests that has passed k of them

  pub goes_on : (n k : ℕ) → k < n → test k ≡ ok tt → in_turn test k (n - k) ≡ in_turn test (k + 1) (n - (k + 1))
  goes_on n k l h = let e : n - k ≡ suc (n - (k + 1)) = omega arith in rw (e, h, add-one k)

  pub stops : (n k : ℕ) {m : ℕ} {i : Input} {at : ℕ} → k < n → test k ≡ refused m i at → in_turn test k (n - k) ≡ refused m i at
  stops n k l h = let e : n - k ≡ suc (n - (k + 1)) = omega arith in rw (e, h)

  pub is_over : (n k : ℕ) → n ≤ k → in_turn test k (n - k) ≡ ok tt
  is_over n k l = let e : n - k ≡ 0 = omega arith in rw e

-- tests that agree, one after another
same_from : (f g : ℕ → Answer (Unit {0})) (n k : ℕ) → ((j : ℕ) → j < k + n → f j ≡ g j) → in_turn f k n ≡ in_turn g k n
same_from f g zero k same = refl
same_from f g (suc n) k same = rw (same k (omega arith), same_from f g n (suc k) (λ j l. same j (omega arith)))

pub same_turn : (f g : ℕ → Answer (Unit {0})) (n : ℕ) → ((k : ℕ) → k < n → f k ≡ g k) → in_turn f 0 n ≡ in_turn g 0 n
same_turn f g n same = same_from f g n 0 (λ k l. same k (omega arith))
