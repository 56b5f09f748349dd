-- What is known of a key list that passed its check, by the layout or as the names of inputs.
use Prim.Native.Nat.{ℕ, ◌*◌, ◌%◌, ◌≤◌, ◌<◌}
use native.Mathlib.Decide.{dec_lt}
use native.Mathlib.Omega.{arith}
use mathlib.Core.Path.{◌≡◌, sym, ap, ◌∙◌}
use mathlib.Core.Bool.{true, ◌&&◌}
use mathlib.Core.List.{List}
use lib.Dec.{eqb, ltb, leb}
use lib.ListN.{length}
use borrow.Author.Tests.{eqb-true, ltb-true, leb-true}
use Rattle.paper.specs.Answers.{ok, refused, ◌>>=◌, require, in_turn, Input, in_list}
use Rattle.paper.specs.Numbers.{byte_at}
use Rattle.paper.specs.Keys.{Key, record_size, records_in, record_at, record_ok, is_new, RecordRule, record_test, keys_by, layout_rule, keys}
use Rattle.paper.specs.Pact.{most_indices}
use Rattle.paper.specs.Drafting.{name_rule, names_of}
use Rattle.paper.proofs.InTurn.{each_passes}
use Rattle.keys.specs.Says.{keys_in, count_by, key_count, name_count}
use Rattle.keys.proofs.Answering.{and_both, required, passed_on, refused_on}
use Rattle.keys.proofs.Records.{keys_length}

-- by any rule

module _ (rule : RecordRule) (list : List ℕ) where
  -- a record that passes its test keeps the rule
  kept : (k : ℕ) → record_test rule list k ≡ ok tt → rule k (record_at list k) ≡ true
  kept k e =
      (required 3 in_list (k * record_size) (rule k (record_at list k)) (require (is_new list k) 4 in_list (k * record_size)) e).0

  module _ {ks : List Key} (e : keys_by rule list ≡ ok ks) where
    parts : (eqb (length list % record_size) 0 ≡ true) × (leb (length list) 2560 ≡ true)
        × (in_turn (record_test rule list) 0 (records_in list) ≡ ok tt) × (keys_in list ≡ ks)
    parts =
        let whole = eqb (length list % record_size) 0 in
        let short = leb (length list) 2560 in
        let records = in_turn (record_test rule list) 0 (records_in list) in
        let p = required 2 in_list (length list) (whole && short) (records >>= λ _. ok (keys_in list)) e in
        let q = passed_on (λ _. keys_in list) records p.1 in
        let b = and_both whole short p.0 in
        (b.0, b.1, q.1, q.2)

    keeps : (k : ℕ) → k < records_in list → rule k (record_at list k) ≡ true
    keeps k h = kept k (each_passes (record_test rule list) (records_in list) parts.2 k h)

  counted : {n : ℕ} → count_by rule list ≡ ok n → (keys_by rule list ≡ ok (keys_in list)) × (n ≡ records_in list)
  counted e =
      let p = passed_on length (keys_by rule list) e in
      let q = sym (parts p.1).3 in
      (p.1 ∙ ap ok q, sym p.2 ∙ ap length q ∙ keys_length list 0 (records_in list))

-- by the layout

module _ (list : List ℕ) {ks : List Key} (e : keys list ≡ ok ks) where
  pub whole_records : length list % record_size ≡ 0
  unfolding keys
  whole_records = eqb-true _ _ (parts layout_rule list e).0

  pub most_bytes : length list ≤ 2560
  unfolding keys
  most_bytes = leb-true _ _ (parts layout_rule list e).1

  pub are_keys : ks ≡ keys_in list
  unfolding keys
  are_keys = sym (parts layout_rule list e).3

  pub good_record : (k : ℕ) → k < records_in list → record_ok (record_at list k) ≡ true
  unfolding keys
  good_record = keeps layout_rule list e

-- what check_list's answer tells

pub listed : (list : List ℕ) {n : ℕ} → key_count list ≡ ok n
    → (keys list ≡ ok (keys_in list)) × (n ≡ records_in list)
unfolding keys
listed list e = counted layout_rule list e

pub not_listed : (list : List ℕ) {n : ℕ} {i : Input} {at : ℕ}
    → key_count list ≡ refused n i at → keys list ≡ refused n i at
not_listed list e = refused_on length (keys list) e

-- as the names of inputs

module _ (list : List ℕ) {ks : List Key} (e : names_of list ≡ ok ks) where
  a_name : (k : ℕ) → k < records_in list → name_rule k (record_at list k) ≡ true
  unfolding names_of
  a_name = keeps name_rule list e

  -- the tests of record k, the last of them first
  tests : (k : ℕ) → k < records_in list
      → (ltb k most_indices ≡ true) × (record_ok (record_at list k) ≡ true)
  tests k h =
      let r = record_at list k in
      let exact = record_ok r && eqb (byte_at r 1) 0 in
      let wide = exact && eqb (byte_at r 2) 64 in
      let p = and_both wide (ltb k most_indices) (a_name k h) in
      let q = and_both exact (eqb (byte_at r 2) 64) p.0 in
      (p.1, (and_both (record_ok r) (eqb (byte_at r 1) 0) q.0).0)

  pub named_record : (k : ℕ) → k < records_in list → record_ok (record_at list k) ≡ true
  named_record k h = (tests k h).1

  -- a 17th would have been refused
  pub few_names : records_in list ≤ most_indices
  few_names =
      elim (dec_lt most_indices (records_in list)) [
        | yes l ↦ absurd (omega (arith, ltb-true most_indices most_indices (tests most_indices l).0))
        | no l ↦ omega arith
      ]

-- what check_names' answer tells

pub names_listed : (list : List ℕ) {n : ℕ} → name_count list ≡ ok n
    → (names_of list ≡ ok (keys_in list)) × (n ≡ records_in list)
unfolding names_of
names_listed list e = counted name_rule list e

pub names_refused : (list : List ℕ) {n : ℕ} {i : Input} {at : ℕ}
    → name_count list ≡ refused n i at → names_of list ≡ refused n i at
names_refused list e = refused_on length (names_of list) e
