-- The name of a key stands in the list where its stretch says: record k begins at k times 80, and its name, of at least one byte and at
-- most 64, at byte 16 of it.
use Prim.Native.Nat.{ℕ, zero, suc, ◌+◌, ◌*◌, ◌-◌, ◌%◌, ◌≤◌, ◌<◌, suc-le-suc}
use native.Mathlib.Nat.{add-zero}
use native.Mathlib.Omega.{arith}
use mathlib.Core.Path.{◌≡◌, refl, sym, ap, subst, ◌∙◌}
use mathlib.Core.Bool.{Bool, true, false, ◌&&◌}
use mathlib.Core.Option.{some, none-ne-some}
use mathlib.Core.List.{List, [], ◌∷◌}
use lib.ListN.{length, take, drop, get_elem?, length-take}
use lib.Seq.{take-take, drop-drop}
use lib.Dec.{eqb, leb}
use borrow.Author.Tests.{leb-true}
use Rattle.paper.specs.Answers.{ok, ◌>>=◌, require, in_turn, in_list}
use Rattle.paper.specs.Numbers.{byte_at, bytes_at}
use Rattle.paper.specs.Tokens.{bytes, same_bytes, is_key}
use Rattle.paper.specs.Keys.{Key, record_size, most_keys, records_in, record_at, name_of, key_of, record_ok, keys_from, record_test, layout_rule, keys}
use Rattle.paper.specs.Sentences.{Name}
use Rattle.paper.specs.Faults.{record_broken}
use Rattle.paper.specs.Table.{Clear, list_stages}
use Rattle.paper.specs.Explained.{name_start, name_stretch}
use Rattle.paper.specs.ExplainedRight.{PieceOfList}
use Rattle.paper.proofs.Basics.{and_false}
use Rattle.paper.proofs.Stages.{ok_same, bind_ok}
use Rattle.paper.proofs.Words.{not_bytes}
use Rattle.paper.proofs.StagesInOrder.{Follows}
use Rattle.paper.proofs.ListFaults.{list_follows}

-- the keys of a list are its records, and each keeps its layout

key_at : (list : List ℕ) (n m k : ℕ) (x : Key) → get_elem? (keys_from list m n) k ≡ some x → (k < n) × (x ≡ key_of (record_at list (m + k)))
key_at list zero m k x h = absurd (none-ne-some x h)
key_at list (suc n) m zero x h =
    let same : x ≡ key_of (record_at list m) = cc h in
    (omega arith, same ∙ ap (λ (j : ℕ). key_of (record_at list j)) (sym (add-zero m)))
key_at list (suc n) m (suc k) x h =
    let (l, same) = key_at list n (suc m) k x h in
    let e : suc m + k ≡ m + suc k = omega arith in
    (suc-le-suc l, same ∙ ap (λ (j : ℕ). key_of (record_at list j)) e)

module _ (list : List ℕ) (ks : List Key) (listed : keys list ≡ ok ks) where
  are_records : ks ≡ keys_from list 0 (records_in list)
  unfolding keys
  are_records =
      let all = keys_from list 0 (records_in list) in
      let fit = eqb (length list % record_size) 0 && leb (length list) (most_keys * record_size) in
      let tests = in_turn (record_test layout_rule list) 0 (records_in list) in
      let (size, sized, rest) = bind_ok (require fit 2 in_list (length list)) (λ _. tests >>= λ _. ok all) ks listed in
      let (each, kept, last) = bind_ok tests (λ _. ok all) ks rest in
      sym (ok_same all ks last)

  pub key_there : (k : ℕ) (x : Key) → get_elem? ks k ≡ some x → (k < records_in list) × (x ≡ key_of (record_at list k))
  key_there k x there =
      let (l, same) = key_at list (records_in list) 0 k x (subst (λ (us : List Key). get_elem? us k ≡ some x) are_records there) in
      let zeroth : 0 + k ≡ k = omega arith in
      (l, same ∙ ap (λ (j : ℕ). key_of (record_at list j)) zeroth)

  no_fault : Clear (list_stages list)
  no_fault = subst (λ a. Follows (list_stages list) a) listed (list_follows list)

  record_kept : (k : ℕ) → k < records_in list → record_ok (record_at list k) ≡ true
  record_kept k l = go (record_ok (record_at list k)) refl
    where
      go : (b : Bool) → record_ok (record_at list k) ≡ b → b ≡ true
      go true e = refl
      go false e = absurd (no_fault.1.0 3 (k * record_size) (record_broken k l e))

-- a name's length

module _ (r : List ℕ) (h : record_ok r ≡ true) where
  some_byte : 1 ≤ byte_at r 0
  some_byte = leb-true 1 (byte_at r 0) (go (leb 1 (byte_at r 0)) refl)
    where
      go : (b : Bool) → leb 1 (byte_at r 0) ≡ b → b ≡ true
      go true e = refl
      go false e = (simp e at h)

  most_bytes : byte_at r 0 ≤ 64
  most_bytes = leb-true (byte_at r 0) 64 (go (leb (byte_at r 0) 64) refl)
    where
      go : (b : Bool) → leb (byte_at r 0) 64 ≡ b → b ≡ true
      go true e = refl
      go false e = (simp (e, and_false) at h)

-- the name of a record that keeps its layout: a word that a text can hold
pub record Named (w : List ℕ) : Type 0 where
  pub word : is_key w ≡ true
  pub name : Name w
  pub short : length w ≤ 64

named_so : (r : List ℕ) → record_ok r ≡ true → Named (name_of r)
named_so r h =
    record {
      word = word (is_key (name_of r)) refl;
      name = (
        not_bytes (name_of r) (bytes "true") (not_true (same_bytes (name_of r) (bytes "true")) refl),
        not_bytes (name_of r) (bytes "false") (not_false (same_bytes (name_of r) (bytes "false")) refl),
      );
      short = simp length-take (omega (arith, most_bytes r h));
    }
  where
    word : (b : Bool) → is_key (name_of r) ≡ b → b ≡ true
    word true e = refl
    word false e = (simp (e, and_false) at h)

    not_true : (b : Bool) → same_bytes (name_of r) (bytes "true") ≡ b → b ≡ false
    not_true true e = sym (simp (e, and_false) at h)
    not_true false e = refl

    not_false : (b : Bool) → same_bytes (name_of r) (bytes "false") ≡ b → b ≡ false
    not_false true e = sym (simp (e, and_false) at h)
    not_false false e = refl

pub key_named : (list : List ℕ) (ks : List Key) → keys list ≡ ok ks → (k : ℕ) (x : Key) → get_elem? ks k ≡ some x → Named x.name
key_named list ks listed k x there =
    let (l, same) = key_there list ks listed k x there in
    subst Named (sym (ap (λ (y : Key). y.name) same)) (named_so (record_at list k) (record_kept list ks listed k l))

-- bytes of a record are bytes of the list
bytes_within : (from size n : ℕ) (s : List ℕ) → from + n ≤ size → bytes_at (take size s) from n ≡ bytes_at s from n
bytes_within zero size n s h = take-take n size s (omega arith)
bytes_within (suc from) zero n s h = absurd (omega arith)
bytes_within (suc from) (suc size) n [] h = refl
bytes_within (suc from) (suc size) n (b ∷ s) h = bytes_within from size n s (omega arith)

pub name_in_list : (list : List ℕ) (ks : List Key) (k : ℕ) (x : Key) → keys list ≡ ok ks → get_elem? ks k ≡ some x
    → PieceOfList list k (name_stretch list k)
name_in_list list ks k x listed there =
    let r = record_at list k in
    let n = byte_at r 0 in
    let from = k * record_size + name_start in
    let (l, same) = key_there list ks listed k x there in
    let kept = record_kept list ks listed k l in
    let low = some_byte r kept in
    let high = most_bytes r kept in
    let count : from + n - from ≡ n = omega arith in
    record {
      stretch = record { some = omega (arith, low); inside = omega (arith, l, high) };
      ks = ks;
      listed = listed;
      key = x;
      there = there;
      name =
          ap (bytes_at list from) count
          ∙ ap (take n) (sym (drop-drop name_start (k * record_size) list))
          ∙ sym (bytes_within name_start record_size n (drop (k * record_size) list) (omega (arith, high)))
          ∙ sym (ap (λ (y : Key). y.name) same);
    }
