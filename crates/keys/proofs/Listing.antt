-- The check of a key list by any rule: its length, and then the test of each record.
use Prim.Native.Nat.{ℕ, ◌*◌, ◌%◌, ◌≤◌, ◌<◌}
use mathlib.Core.Path.{◌≡◌, refl, sym, ap}
use mathlib.Core.Bool.{true, false}
use mathlib.Core.List.{List}
use lib.ListN.{length}
use borrow.Author.Tests.{eq-eqb, ne_eqb, le-leb, lt-leb}
use Rattle.std.specs.Prelude.{Option, Some, None}
use Rattle.std.specs.Option.{is_some}
use Rattle.paper.specs.Answers.{Answer, ok, refused, ◌>>=◌, in_turn, in_list}
use Rattle.paper.specs.Keys.{record_size, records_in, record_at, name_of, find, keys_from, RecordRule, record_test}
use Rattle.keys.specs.Says.{keys_in, found, count_by}
use Rattle.keys.proofs.Answering.{never}
use Rattle.keys.proofs.Records.{keys_length}

module _ (rule : RecordRule) (list : List ℕ) where
  pub ragged : (length list % record_size ≡ 0 → ⊥) → count_by rule list ≡ refused 2 in_list (length list)
  ragged h = rw (ne_eqb _ _ h)

  pub too_long : length list % record_size ≡ 0 → 2560 < length list → count_by rule list ≡ refused 2 in_list (length list)
  too_long h g = rw (eq-eqb _ _ h, lt-leb _ _ g)

  counted : (a : Answer (Unit {0}))
      → (a >>= (λ _. ok (keys_in list)) >>= λ ks. ok (length ks)) ≡ (a >>= λ _. ok (records_in list))
  counted (ok u) = ap ok (keys_length list 0 (records_in list))
  counted (refused n i at) = refl

  -- where the length is right the records decide
  pub by_records : {a : Answer (Unit {0})} → length list % record_size ≡ 0 → length list ≤ 2560
      → in_turn (record_test rule list) 0 (records_in list) ≡ a → count_by rule list ≡ (a >>= λ _. ok (records_in list))
  by_records {a} h g e = rw (eq-eqb _ _ h, le-leb _ _ g, e) (counted a)

-- what is found of record k decides its test
module _ (rule : RecordRule) (list : List ℕ) (k : ℕ) {r : List ℕ} (at : r ≡ record_at list k) where
  pub broken : rule k r ≡ false → record_test rule list k ≡ refused 3 in_list (k * record_size)
  broken e = rw (← at, e)

  module _ {name : List ℕ} (good : rule k r ≡ true) (named : name ≡ name_of r) where
    pub repeated : (r : Option ℕ) → is_some r ≡ true → found r ≡ find (keys_from list 0 k) name
        → record_test rule list k ≡ refused 4 in_list (k * record_size)
    repeated (Some j) s f = rw (← at, good, ← named, ← f)
    repeated None s f = absurd (never s)

    pub new : (r : Option ℕ) → is_some r ≡ false → found r ≡ find (keys_from list 0 k) name → record_test rule list k ≡ ok tt
    new None s f = rw (← at, good, ← named, ← f)
    new (Some j) s f = absurd (never (sym s))
