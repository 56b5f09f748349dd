-- The names of a list that passed its check: a record's name lies in the list where its offsets say, since it is no longer than its place there.
use Prim.Native.Nat.{ℕ, zero, suc, ◌+◌, ◌*◌, ◌-◌, ◌≤◌, ◌<◌}
use native.Mathlib.Nat.{add-zero}
use native.Mathlib.Omega.{arith}
use mathlib.Core.Path.{◌≡◌, subst, ◌∙◌}
use mathlib.Core.Bool.{true}
use mathlib.Core.List.{List, [], map}
use lib.ListN.{length, get_or, drop}
use lib.Seq.{slice, take-take, drop-drop, get_or-take, get_or-drop}
use lib.Dec.{ltb}
use borrow.Author.Tests.{ltb-true}
use Rattle.paper.specs.Numbers.{byte_at}
use Rattle.paper.specs.Keys.{Key, record_at, records_in, name_of, keys_from}
use Rattle.paper.specs.Pact.{indices_of}
use Rattle.spelling.proofs.Tests.{and_both}
use Rattle.keys.proofs.Records.{name_most}
use Rattle.keys.proofs.Checked.{named_record, few_names}
use Rattle.trees.proofs.Stretches.{drop_of_take, slice-part}
use Rattle.drafting.specs.declared.assertions.Assertion.{Assertion}
use Rattle.drafting.specs.declared.opcodes.Load.{Load}
use Rattle.drafting.specs.Opcodes.{load_meant}
use Rattle.drafting.specs.Assertions.{Named, names_in, Fits}

-- the name of a record is that of its key
name_from : (list : List ℕ) (j n k : ℕ) → k < n → get_or (map (λ (x : Key). x.name) (keys_from list j n)) k [] ≡ name_of (record_at list (j + k))
name_from list j zero k h = absurd (omega arith)
name_from list j (suc n) zero h = rw add-zero
name_from list j (suc n) (suc k) h =
    let e : suc j + k ≡ j + suc k = omega arith in
    name_from list (suc j) n k (omega arith) ∙ rw e

pub name_in : (list : List ℕ) (k : ℕ) → k < records_in list → get_or (names_in list) k [] ≡ name_of (record_at list k)
name_in list k h =
    let e : 0 + k ≡ k = omega arith in
    name_from list 0 (records_in list) k h ∙ rw e

-- a record's first byte, in the list
first_byte : (list : List ℕ) (k : ℕ) → byte_at (record_at list k) 0 ≡ get_or list (k * 80) 0
first_byte list k = get_or-take 80 (drop (k * 80) list) 0 0 (omega arith) ∙ get_or-drop (k * 80) list 0 0 ∙ rw add-zero

module _ (list : List ℕ) (named : Named list) where
  pub few_bytes : length list < 1360
  few_bytes = omega (arith, few_names list named)

  module _ (k : ℕ) (h : k < records_in list) where
    pub short_name : get_or list (k * 80) 0 ≤ 64
    short_name = omega (arith, first_byte list k, name_most (record_at list k) (named_record list named k h))

    pub spelled : slice (k * 80 + 16) (k * 80 + 16 + get_or list (k * 80) 0) list ≡ name_of (record_at list k)
    spelled =
        let b = get_or list (k * 80) 0 in
        let from = k * 80 + 16 in
        let size : from + b - from ≡ b = omega arith in
        let rest = drop (k * 80) list in
        slice-part list from (from + b) (omega arith)
        ∙ rw (size, first_byte list k, drop_of_take 16 64 rest, take-take b 64 (drop 16 rest) short_name, drop-drop 16 (k * 80) list)

-- an assertion whose indices have their names and numbers

module _ (list table : List ℕ) (a : Assertion) (h : Fits list table a) where
  abbrev among : Load → ℕ
  among l = indices_of (records_in list) (length table) (load_meant l)

  both : (ltb a.left (records_in list) ≡ true) × (ltb a.right (among a.comparator.load) ≡ true)
  both = and_both (ltb a.left (records_in list)) (ltb a.right (among a.comparator.load)) h.all

  pub left_named : a.left < records_in list
  left_named = ltb-true _ _ both.0

  pub right_there : (l : Load) → a.comparator.load ≡ l → a.right < among l
  right_there l e = ltb-true _ _ (subst (λ (x : Load). ltb a.right (among x) ≡ true) e both.1)
