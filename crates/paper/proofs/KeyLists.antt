-- A key list that passes has at most 32 keys, each of a width from 1 to 128; and names of a contract's inputs are such a list, of at most 16.
use Prim.Native.Nat.{ℕ, zero, suc, ◌+◌, ◌*◌, ◌%◌, ◌≤◌, ◌<◌}
use native.Mathlib.Omega.{arith}
use mathlib.Core.Path.{◌≡◌, refl, ap, subst}
use mathlib.Core.Bool.{Bool, true, false, ◌&&◌, and-eq-true_iff}
use mathlib.Core.List.{List}
use lib.ListN.{length}
use lib.Dec.{eqb, ltb, leb}
use borrow.Author.Tests.{eqb-true, ltb-true, leb-true}
use Rattle.paper.specs.Answers.{ok, ◌>>=◌, require, in_turn, in_list}
use Rattle.paper.specs.Numbers.{byte_at}
use Rattle.paper.specs.Keys.{Key, most_keys, record_size, records_in, record_at, record_ok, is_new, keys_from, RecordRule, record_test, keys_by, layout_rule, keys}
use Rattle.paper.specs.Pact.{most_indices}
use Rattle.paper.specs.Drafting.{name_rule, names_of}
use Rattle.paper.specs.DraftedRight.{NamesAreKeys}
use Rattle.paper.specs.BlocksRoundTrip.{All, Width, Listed, KeysListed}
use Rattle.paper.proofs.Basics.{and_false, and_right}
use Rattle.paper.proofs.Stages.{ok_same, bind_ok, require_ok}
use Rattle.paper.proofs.InTurn.{each_passes, all_pass}

-- a record that passes has such a width

narrow_record : (r : List ℕ) → record_ok r ≡ true → Width (byte_at r 2)
narrow_record r h = (leb-true 1 (byte_at r 2) (low (leb 1 (byte_at r 2)) refl), leb-true (byte_at r 2) 128 (high (leb (byte_at r 2) 128) refl))
  where
    low : (b : Bool) → leb 1 (byte_at r 2) ≡ b → b ≡ true
    low true e = refl
    low false e = (simp (e, and_false) at h)

    high : (b : Bool) → leb (byte_at r 2) 128 ≡ b → b ≡ true
    high true e = refl
    high false e = (simp (e, and_false) at h)

-- a record that passes its test keeps its rule
pub rule_kept : (rule : RecordRule) (list : List ℕ) (k : ℕ) → record_test rule list k ≡ ok tt → rule k (record_at list k) ≡ true
rule_kept rule list k h =
    let good = rule k (record_at list k) in
    let (u, passed, _) = bind_ok (require good 3 in_list (k * record_size)) (λ _. require (is_new list k) 4 in_list (k * record_size)) tt h in
    require_ok good 3 in_list (k * record_size) u passed

-- and passes that of another rule which it keeps
test_by : (rule other : RecordRule) (list : List ℕ) (k : ℕ) → record_test rule list k ≡ ok tt → other k (record_at list k) ≡ true
    → record_test other list k ≡ ok tt
test_by rule other list k h kept =
    let good = rule k (record_at list k) in
    let (_, _, new) = bind_ok (require good 3 in_list (k * record_size)) (λ _. require (is_new list k) 4 in_list (k * record_size)) tt h in
    rw kept new

-- a list that passes by a rule: its length fits, each record passes its test, and its keys are those of its records

abbrev fits : List ℕ → Bool
fits list = eqb (length list % record_size) 0 && leb (length list) (most_keys * record_size)

pub record Passed (rule : RecordRule) (list : List ℕ) (ks : List Key) : Type 0 where
  pub sized : fits list ≡ true
  pub each : (k : ℕ) → k < records_in list → record_test rule list k ≡ ok tt
  pub same : keys_from list 0 (records_in list) ≡ ks

pub list_passed : (rule : RecordRule) (list : List ℕ) (ks : List Key) → keys_by rule list ≡ ok ks → Passed rule list ks
list_passed rule list ks h =
    let n = records_in list in
    let tests = in_turn (record_test rule list) 0 n in
    let (u, sized, more) = bind_ok (require (fits list) 2 in_list (length list)) (λ _. tests >>= λ _. ok (keys_from list 0 n)) ks h in
    let (_, passed, last) = bind_ok tests (λ _. ok (keys_from list 0 n)) ks more in
    record {
      sized = require_ok (fits list) 2 in_list (length list) u sized;
      each = each_passes (record_test rule list) n passed;
      same = ok_same (keys_from list 0 n) ks last;
    }

passed_list : (rule : RecordRule) (list : List ℕ) (ks : List Key) → Passed rule list ks → keys_by rule list ≡ ok ks
passed_list rule list ks p =
    rw (p.sized, all_pass (record_test rule list) (records_in list) p.each) (ap ok p.same)

narrow_keys : (list : List ℕ) (n k : ℕ) → ((j : ℕ) → j < k + n → record_test layout_rule list j ≡ ok tt) → All (λ x. Width x.width) (keys_from list k n)
narrow_keys list zero k each = tt
narrow_keys list (suc n) k each =
    (narrow_record (record_at list k) (rule_kept layout_rule list k (each k (omega arith))), narrow_keys list n (suc k) (λ j l. each j (omega arith)))

keys_length : (list : List ℕ) (n k : ℕ) → length (keys_from list k n) ≡ n
keys_length list zero k = refl
keys_length list (suc n) k = ap suc (keys_length list n (suc k))

pub keys_listed : KeysListed
unfolding keys
keys_listed list ks h =
    let n = records_in list in
    let p = list_passed layout_rule list ks h in
    let short = leb-true (length list) (most_keys * record_size) (and_right (eqb (length list % record_size) 0) _ p.sized) in
    subst Listed p.same
    (record { few = rw keys_length (omega arith); widths = narrow_keys list n 0 (λ k l. p.each k (omega arith)) })

-- names are keys: their rule asks for more than the layout, and leaves no room for a 17th

pub record NameRecord (k : ℕ) (r : List ℕ) : Type 0 where
  pub laid_out : record_ok r ≡ true
  pub exact : byte_at r 1 ≡ 0
  pub wide : byte_at r 2 ≡ 64
  pub early : k < most_indices

pub name_record : (k : ℕ) (r : List ℕ) → name_rule k r ≡ true → NameRecord k r
name_record k r h =
    let kind = eqb (byte_at r 1) 0 in
    let width = eqb (byte_at r 2) 64 in
    let (first, few) = (and-eq-true_iff (record_ok r && kind && width) (ltb k most_indices)).0 h in
    let (second, wide) = (and-eq-true_iff (record_ok r && kind) width).0 first in
    let (good, exact) = (and-eq-true_iff (record_ok r) kind).0 second in
    record {
      laid_out = good;
      exact = eqb-true (byte_at r 1) 0 exact;
      wide = eqb-true (byte_at r 2) 64 wide;
      early = ltb-true k most_indices few;
    }

pub names_recorded : (list : List ℕ) (ks : List Key) → Passed name_rule list ks → (k : ℕ) → k < records_in list → NameRecord k (record_at list k)
names_recorded list ks p k l = name_record k (record_at list k) (rule_kept name_rule list k (p.each k l))

all_below : (n m : ℕ) → ((k : ℕ) → k < n → k < m) → n ≤ m
all_below zero m h = omega arith
all_below (suc n) m h = h n (omega arith)

pub names_are_keys : NamesAreKeys
unfolding names_of keys
names_are_keys list ks h =
    let p = list_passed name_rule list ks h in
    let each : (k : ℕ) → k < records_in list → record_test layout_rule list k ≡ ok tt =
    λ k l. test_by name_rule layout_rule list k (p.each k l) (names_recorded list ks p k l).laid_out
    in (
      passed_list layout_rule list ks (record { sized = p.sized; each = each; same = p.same }),
      subst (λ xs. length xs ≤ most_indices) p.same
          (rw keys_length (all_below (records_in list) most_indices (λ k l. (names_recorded list ks p k l).early))),
    )
