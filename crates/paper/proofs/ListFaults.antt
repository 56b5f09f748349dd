-- Refusals 2, 3 and 4 by the table.
use Prim.Native.Nat.{ℕ, zero, suc, ◌+◌, ◌*◌, ◌%◌, ◌≤◌, ◌<◌}
use native.Mathlib.Decide.{ℕ_discrete}
use native.Mathlib.Omega.{arith}
use mathlib.Core.Path.{◌≡◌, refl, sym, subst, ◌∙◌}
use mathlib.Core.Logic.{◌⊎◌, inl, inr}
use mathlib.Core.Bool.{Bool, true, false, cond, ◌&&◌, true≢false}
use mathlib.Core.Option.{some}
use mathlib.Core.List.{List, [], ◌∷◌}
use lib.ListN.{length}
use lib.Dec.{eqb, leb}
use borrow.Author.Tests.{eqb-true, eqb-false, leb-true, leb-false}
use Rattle.paper.specs.Answers.{ok, ◌>>=◌, require, in_turn, in_list}
use Rattle.paper.specs.Tokens.{same_bytes}
use Rattle.paper.specs.Keys.{record_size, most_keys, record_at, records_in, name_of, find_from, keys_from, is_none, is_new, RecordRule, record_test, keys_by, layout_rule, keys}
use Rattle.paper.specs.Faults.{ListSize, list_uneven, list_over, ListRecords, record_broken, name_repeated}
use Rattle.paper.specs.Table.{Stage, stage, list_stages_by, list_stages}
use Rattle.paper.proofs.Words.{same_bytes_lem, not_bytes}
use Rattle.paper.proofs.StagesInOrder.{Tells, two_tests_tell, Follows, follows_one, follows_as, follows_then}
use Rattle.paper.proofs.Earliest.{Indexed, TellsAt, tests_tell}

-- the length

module _ (list : List ℕ) where
  abbrev even : Bool
  even = eqb (length list % record_size) 0

  abbrev few : Bool
  few = leb (length list) (most_keys * record_size)

  size_free : even ≡ true → few ≡ true → (n at : ℕ) → ¬ ListSize list n at
  size_free h k n at (list_uneven d) = d (eqb-true (length list % record_size) 0 h)
  size_free h k n at (list_over l) = let e = leb-true (length list) (most_keys * record_size) k in omega arith

  size_only : (m to : ℕ) → ListSize list m to → (m ≡ 2) × (to ≡ length list)
  size_only m to (list_uneven d) = (refl, refl)
  size_only m to (list_over l) = (refl, refl)

  size_tells : Tells in_list (ListSize list) (require (even && few) 2 in_list (length list))
  size_tells =
      two_tests_tell (ListSize list) even few 2 in_list (length list) size_free
      (λ e. list_uneven (eqb-false (length list % record_size) 0 e)) (λ e. list_over (leb-false (length list) (most_keys * record_size) e)) size_only

-- the names before a record

module _ (list : List ℕ) (name : List ℕ) where
  abbrev Named : ℕ → ℕ → Type 0
  Named from below = (j : ℕ) × (from ≤ j) × (j < below) × (name_of (record_at list j) ≡ name)

  named : (n b m : ℕ) → is_none (find_from m (keys_from list b n) name) ≡ false → Named b (b + n)
  named zero b m h = absurd (true≢false h)
  named (suc n) b m h = go (same_bytes (name_of (record_at list b)) name) refl h (named n (suc b) (suc m))
    where
      go : (t : Bool) → same_bytes (name_of (record_at list b)) name ≡ t
          → is_none (cond t (some m) (find_from (suc m) (keys_from list (suc b) n) name)) ≡ false
          → (is_none (find_from (suc m) (keys_from list (suc b) n) name) ≡ false → Named (suc b) (suc b + n)) → Named b (b + suc n)
      go true e h later = (b, omega arith, omega arith, same_bytes_lem (name_of (record_at list b)) name e)
      go false e h later = let (j, low, high, same) = later h in (j, omega arith, omega arith, same)

  not_named : (n b m : ℕ) → is_none (find_from m (keys_from list b n) name) ≡ true → ¬ Named b (b + n)
  not_named zero b m h = λ (j, low, high, same). omega arith
  not_named (suc n) b m h = go (same_bytes (name_of (record_at list b)) name) refl h (not_named n (suc b) (suc m))
    where
      go : (t : Bool) → same_bytes (name_of (record_at list b)) name ≡ t
          → is_none (cond t (some m) (find_from (suc m) (keys_from list (suc b) n) name)) ≡ true
          → (is_none (find_from (suc m) (keys_from list (suc b) n) name) ≡ true → ¬ Named (suc b) (suc b + n)) → ¬ Named b (b + suc n)
      go true e h later g = absurd (true≢false (sym h))
      go false e h later (j, low, high, same) = by (ℕ_discrete j b)
        where
          by : Dec (j ≡ b) → ⊥
          by (yes d) = not_bytes (name_of (record_at list b)) name e (rw d at same)
          by (no d) = later h (j, omega arith, omega arith, same)

-- records, by any rule

module _ (list : List ℕ) where
  abbrev Repeats : ℕ → Type 0
  Repeats k = (j : ℕ) × (j < k) × (name_of (record_at list j) ≡ name_of (record_at list k))

  repeats : (k : ℕ) → is_new list k ≡ false → Repeats k
  repeats k h = let (j, low, high, same) = named list (name_of (record_at list k)) k 0 0 h in (j, omega arith, same)

  not_repeats : (k : ℕ) → is_new list k ≡ true → ¬ Repeats k
  not_repeats k h (j, l, same) = not_named list (name_of (record_at list k)) k 0 0 h (j, omega arith, omega arith, same)

module _ (rule : RecordRule) (list : List ℕ) where
  indexed : Indexed (ListRecords rule list) (records_in list) (λ k. k * record_size)
  indexed = record { index = index; rises = λ j k l. omega arith }
    where
      index : (n at : ℕ) → ListRecords rule list n at → (k : ℕ) × (k < records_in list) × (at ≡ k * record_size)
      index n at (record_broken k l h) = (k, l, refl)
      index n at (name_repeated j k l m h) = (k, m, refl)

  -- the faults of a record
  abbrev FaultOf : ℕ → ℕ → Type 0
  FaultOf k n = ((n ≡ 3) × (rule k (record_at list k) ≡ false)) ⊎ ((n ≡ 4) × Repeats list k)

  fault_of : (k n at : ℕ) → ListRecords rule list n at → at ≡ k * record_size → FaultOf k n
  fault_of k n at (record_broken j l h) e =
      let same : j ≡ k = omega arith in
      inl (refl, subst (λ x. rule x (record_at list x) ≡ false) same h)
  fault_of k n at (name_repeated i j l m h) e =
      let same : j ≡ k = omega arith in
      inr (refl, subst (Repeats list) same (i, l, h))

  no_fault : (k n : ℕ) → rule k (record_at list k) ≡ true → is_new list k ≡ true → ¬ FaultOf k n
  no_fault k n good new (inl (e, bad)) = true≢false (sym good ∙ bad)
  no_fault k n good new (inr (e, again)) = not_repeats list k new again

  least : (k m : ℕ) → FaultOf k m → 3 ≤ m
  least k m (inl (e, h)) = omega (arith, e)
  least k m (inr (e, h)) = omega (arith, e)

  least_good : (k m : ℕ) → rule k (record_at list k) ≡ true → FaultOf k m → 4 ≤ m
  least_good k m good (inl (e, bad)) = absurd (true≢false (sym good ∙ bad))
  least_good k m good (inr (e, again)) = omega (arith, e)

  record_tells : (k : ℕ) → k < records_in list
      → TellsAt in_list (ListRecords rule list) (records_in list) (λ k. k * record_size) indexed k (record_test rule list k)
  record_tells k l = go (rule k (record_at list k)) (is_new list k) refl refl
    where
      here : (n : ℕ) → ListRecords rule list n (k * record_size) → FaultOf k n
      here n h = fault_of k n (k * record_size) h refl

      go : (b c : Bool) → rule k (record_at list k) ≡ b → is_new list k ≡ c
          → TellsAt in_list (ListRecords rule list) (records_in list) (λ k. k * record_size) indexed k (require b 3 in_list (k * record_size) >>= λ _. require c 4 in_list (k * record_size))
      go true true good new = λ n h. no_fault k n good new (here n h)
      go true false good old =
          let (j, less, same) = repeats list k old in
          (refl, refl, name_repeated j k less l same, λ m h. least_good k m good (here m h))
      go false c bad _ = (refl, refl, record_broken k l bad, λ m h. least k m (here m h))

  records_tell : Tells in_list (ListRecords rule list) (in_turn (record_test rule list) 0 (records_in list))
  records_tell = tests_tell in_list (ListRecords rule list) (records_in list) (λ k. k * record_size) indexed (record_test rule list) record_tells

  pub list_follows_by : Follows (list_stages_by rule list) (keys_by rule list)
  list_follows_by =
      let size = require (even list && few list) 2 in_list (length list) in
      let records = in_turn (record_test rule list) 0 (records_in list) in
      let all = keys_from list 0 (records_in list) in
      let first : List Stage = stage in_list (ListSize list) ∷ [] in
      let last : List Stage = stage in_list (ListRecords rule list) ∷ [] in
      follows_then first last size (λ _. records >>= λ _. ok all)
      (follows_one in_list (ListSize list) size (size_tells list))
      (λ _ _. follows_as last records (λ _. all) (follows_one in_list (ListRecords rule list) records records_tell))

pub list_follows : (list : List ℕ) → Follows (list_stages list) (keys list)
unfolding keys
list_follows list = list_follows_by layout_rule list
