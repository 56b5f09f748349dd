-- `summarizing::same_records` meets its contract. A turn of its loop looks at the lowest bit that is left (`named_here`) and, where it is set, at
-- the record of key k; the bits that are left then are those of the keys after it (`next_bits`).
use Prim.Native.Nat.{ℕ, ◌+◌, ◌/◌, ◌%◌, ◌≤◌, ◌<◌}
use native.Mathlib.Omega.{arith}
use mathlib.Core.Path.{◌≡◌, sym, ◌∙◌, ap}
use mathlib.Core.Bool.{Bool}
use mathlib.Core.List.{List}
use lib.ListN.{length}
use lib.Dec.{eqb}
use borrow.Author.Tests.{eq-eqb, ne_eqb}
use Rattle.paper.specs.Keys.{most_keys, records_in}
use Rattle.paper.specs.Rechecking.{same_from}
use Rattle.keys.specs.Says.{keys_in}
use Rattle.keys.proofs.Records.{keys_length}
use Rattle.keys.proofs.Checked.{most_bytes}
use Rattle.operands.specs.Conforming.{Conforming}
use Rattle.operands.proofs.Conforming.{entry_size}
use Rattle.summarizing.proofs.KeyByKey.{bits_from, all_bits, named_here, next_bits, same_on, from_start, not_named, same_here, other_here, none_left}
use Rattle.summarizing.proofs.same.same_records.Goals as goal
use Rattle.summarizing.proofs.same.same_records.Goals.{else-rest-eq1-via-then-rest-eq1+else-not-same_record, else-rest-eq1-via-else-rest-eq1}

pub loop-k-init : goal.loop-k-init
loop-k-init c p e = (e ∙ all_bits p, from_start p c.args.old.now c.args.new.now (records_in c.args.list.now))

pub same_record-requires : goal.same_record-requires
same_record-requires c =
    let more = c.loop-k-test.true in
    record {
      match_size_in_bounds = omega (arith, more, entry_size c.args.list.now c.args.old.now c.requires.conforming);
      match_size_in_bounds_2 = omega (arith, more, entry_size c.args.list.now c.args.new.now c.requires.conforming_2);
    }

module _ (list old : List ℕ) (good : Conforming list old) (k : ℕ) (more : k < records_in list) (p : ℕ → Bool) {rest : ℕ} (bits : rest ≡ bits_from p k) where
  few : records_in list ≤ most_keys
  few = omega (arith, most_bytes list good.listed)

  -- the lowest bit that is left tells whether key k is named
  lowest : {b : Bool} → eqb (rest % 2) 1 ≡ b → p k ≡ b
  lowest f = sym (named_here p k (omega (arith, more, few))) ∙ ap (λ (x : ℕ). eqb (x % 2) 1) (sym bits) ∙ f

  left : rest / 2 ≡ bits_from p (k + 1)
  left = ap (λ (x : ℕ). x / 2) bits ∙ next_bits p k (omega (arith, more, few))

-- what is found of the records from k on is the answer
decided : (list old new : List ℕ) (k : ℕ) (p : ℕ → Bool) → same_on p old new (records_in list) k ≡ same_from p old new 0 (records_in list)
    → {b : Bool} → same_on p old new (records_in list) k ≡ b → b ≡ same_from p old new 0 (length (keys_in list))
decided list old new k p same f = sym f ∙ same ∙ ap (same_from p old new 0) (sym (keys_length list 0 (records_in list)))

pub returns-then-not-same_record : goal.returns-then-not-same_record
returns-then-not-same_record c p e =
    let a = c.args in
    let k = c.loop-k.k in
    let more = c.loop-k-test.true in
    let now = c.loop-k.invariant p e in
    let named = lowest a.list.now a.old.now c.requires.conforming k more p now.0 (eq-eqb _ 1 c.if-rest-eq1.true) in
    decided a.list.now a.old.now a.new.now k p now.1
    (other_here p a.old.now a.new.now (records_in a.list.now) k more named (sym c.same_record.ensures ∙ c.if-not-same_record.true))

-- a record that is the same, or is not named, is passed
pub loop-k-preserved : goal.loop-k-preserved
loop-k-preserved c p e =
    let a = c.args in
    let k = c.loop-k.k in
    let more = c.loop-k-test.true in
    let now = c.loop-k.invariant p e in
    let passed : same_on p a.old.now a.new.now (records_in a.list.now) k ≡ same_on p a.old.now a.new.now (records_in a.list.now) (k + 1) =
    elim c.else-rest-eq1.branch [
      | else-rest-eq1-via-then-rest-eq1+else-not-same_record w ↦ same_here p a.old.now a.new.now (records_in a.list.now) k more (sym w.same_record.ensures ∙ w.if-not-same_record.false)
      | else-rest-eq1-via-else-rest-eq1 w ↦ not_named p a.old.now a.new.now (records_in a.list.now) k more
          (lowest a.list.now a.old.now c.requires.conforming k more p now.0 (ne_eqb _ 1 w.if-rest-eq1.false))
    ]
    in
    (left a.list.now a.old.now c.requires.conforming k more p now.0, sym passed ∙ now.1)

pub returns : goal.returns
returns c p e =
    let a = c.args in
    decided a.list.now a.old.now a.new.now c.loop-k.k p (c.loop-k.invariant p e).1
    (none_left p a.old.now a.new.now (records_in a.list.now) c.loop-k.k c.loop-k-test.false)
