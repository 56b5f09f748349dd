-- The check of an entry: its length, its priority, and then the test of each key's record.
use Prim.Native.Nat.{ℕ, ◌+◌, ◌*◌, ◌^◌, ◌≤◌, ◌<◌}
use mathlib.Core.Path.{◌≡◌, refl}
use mathlib.Core.Bool.{true, false}
use mathlib.Core.List.{List}
use lib.ListN.{length}
use borrow.Author.Tests.{eq-eqb, ne_eqb, lt-ltb, le-ltb}
use Rattle.paper.specs.Answers.{Answer, ok, refused, ◌>>=◌, in_turn, in_entry}
use Rattle.paper.specs.Keys.{records_in}
use Rattle.paper.specs.Entry.{head_size, match_size, match_at, match_ok, priority_of, rule_test, entry_of}
use Rattle.keys.specs.declared.record.KeyRecord.{KeyRecord}
use Rattle.keys.specs.Says.{keys_in, KeyRead, unnamed, conforms}
use Rattle.keys.proofs.Records.{keys_length, key_at}

dropped : {A : Type 0} (x : A) (a : Answer (Unit {0})) → (a >>= (λ _. ok x) >>= λ _. ok tt) ≡ a
dropped x (ok tt) = refl
dropped x (refused n i at) = refl

module _ (list entry : List ℕ) where
  pub wrong_length : (length entry ≡ head_size + match_size * records_in list → ⊥)
      → conforms (keys_in list) entry ≡ refused 19 in_entry (length entry)
  unfolding entry_of
  wrong_length h = rw (keys_length list 0 (records_in list), ne_eqb _ _ h)

  module _ (right : length entry ≡ head_size + match_size * records_in list) where
    pub too_high : 2 ^ 31 ≤ priority_of entry → conforms (keys_in list) entry ≡ refused 20 in_entry 0
    unfolding entry_of
    too_high g =
        rw (keys_length list 0 (records_in list), eq-eqb _ _ right, le-ltb (priority_of entry) (2 ^ 31) g)

    -- where the length and the priority are right the records decide
    pub by_rules : {a : Answer (Unit {0})} → priority_of entry < 2 ^ 31 → in_turn (rule_test (keys_in list) entry) 0 (records_in list) ≡ a
        → conforms (keys_in list) entry ≡ a
    unfolding entry_of
    by_rules {a} g e =
        rw (keys_length list 0 (records_in list), eq-eqb _ _ right, lt-ltb (priority_of entry) (2 ^ 31) g, e)
        (dropped _ a)

-- what is found of the record of key k decides its test
module _ (list entry : List ℕ) (k : ℕ) (h : k < records_in list) {r : List ℕ} (at : r ≡ match_at entry k) (key : KeyRecord)
    (read : KeyRead list k key) where
  pub rule_broken : match_ok (unnamed key) r ≡ false
      → rule_test (keys_in list) entry k ≡ refused 20 in_entry (head_size + k * match_size)
  rule_broken e = rw (key_at list (records_in list) k h, ← at, ← read.kind, ← read.width, ← read.required, e)

  pub rule_kept : match_ok (unnamed key) r ≡ true → rule_test (keys_in list) entry k ≡ ok tt
  rule_kept e = rw (key_at list (records_in list) k h, ← at, ← read.kind, ← read.width, ← read.required, e)
