-- Another record for one key of an entry: every other byte stands as it stood, so an entry that conforms still does where the new record keeps
-- its rule. And a present record that is written from a match, within its key's width, is read as that match and keeps the rule if it does.
use Prim.Native.Nat.{ℕ, suc, ◌+◌, ◌*◌, ◌-◌, ◌^◌, ◌≤◌, ◌<◌}
use native.Mathlib.Nat.{zero-add, lt_of_lt_of_le, eq-or-lt_of_le}
use native.Mathlib.Omega.{arith}
use mathlib.Core.Path.{◌≡◌, refl, sym, ap, subst, ◌∙◌}
use mathlib.Core.Logic.{◌⊎◌, inl, inr, ◌≢◌}
use mathlib.Core.Bool.{Bool, true, false}
use mathlib.Core.Option.{Option, none, some}
use mathlib.Core.List.{List, [], ◌++◌, append_assoc, append-nil}
use lib.ListN.{length, take, drop, get_elem?, length-append, length-drop, take-append-drop}
use lib.Seq.{length-take-le, take-append-le, drop-append-le, take_at, drop_at, drop-drop, get_or-take}
use lib.Dec.{eqb, ltb, lit<}
use lib.Pow.{pow_mono}
use borrow.Author.Tests.{eqb-true, eqb-false, eq-eqb, ltb-true, ltb-false, lt-ltb}
use Rattle.paper.specs.Answers.{ok, require, in_entry}
use Rattle.paper.specs.Numbers.{byte_at, bytes_at, number_at, big_endian}
use Rattle.paper.specs.Keys.{Key}
use Rattle.paper.specs.Entry.{Match, Entry, head_size, match_size, match_record, match_at, kind_rule, match_ok, match_of, matches_from, priority_of, asked, rule_test, entry_of}
use Rattle.paper.specs.Promised.{Bytes}
use Rattle.paper.specs.Dependence.{with_record}
use Rattle.paper.proofs.Basics.{some_below}
use Rattle.paper.proofs.Digits.{number_same, number_back}
use Rattle.paper.proofs.ByteLists.{append_bytes, take_bytes, drop_bytes, number_bytes}
use Rattle.paper.proofs.InTurn.{all_pass}
use Rattle.paper.proofs.Depends.{entry_read}
use Rattle.paper.proofs.Required.{match_kept}

-- the bytes

bytes_front : (p q : List ℕ) (at n : ℕ) → at + n ≤ length p → bytes_at (p ++ q) at n ≡ bytes_at p at n
bytes_front p q at n h =
    let some_left : n ≤ length (drop at p) = rw length-drop (omega arith) in
    rw (drop-append-le at p q (omega arith), take-append-le n (drop at p) q some_left)

pub with_bytes : (entry r : List ℕ) (k : ℕ) → Bytes entry → Bytes r → Bytes (with_record entry k r)
with_bytes entry r k en new =
    let from = head_size + k * match_size in
    let to = head_size + suc k * match_size in
    append_bytes (take from entry ++ r) (drop to entry) (append_bytes (take from entry) r (take_bytes from entry en) new) (drop_bytes to entry en)

module _ (entry r : List ℕ) (k : ℕ) (there : head_size + suc k * match_size ≤ length entry) (size : length r ≡ match_size) where
  abbrev other : List ℕ
  other = with_record entry k r

  abbrev from : ℕ
  from = head_size + k * match_size

  abbrev to : ℕ
  to = head_size + suc k * match_size

  front_size : length (take from entry) ≡ from
  front_size = length-take-le from entry (omega arith)

  front_and_record : length (take from entry ++ r) ≡ to
  front_and_record = rw (length-append, front_size, size) (omega arith)

  same_size : length other ≡ length entry
  same_size = rw (length-append, front_and_record, length-drop) (omega arith)

  before : (at n : ℕ) → at + n ≤ from → bytes_at other at n ≡ bytes_at entry at n
  before at n h =
      let front = take from entry in
      let fits : at + n ≤ length front = rw front_size h in
      ap (λ (s : List ℕ). bytes_at s at n) (append_assoc front r (drop to entry))
      ∙ bytes_front front (r ++ drop to entry) at n fits
      ∙ sym (bytes_front front (drop from entry) at n fits)
      ∙ ap (λ (s : List ℕ). bytes_at s at n) (take-append-drop from entry)

  after : (at n : ℕ) → to ≤ at → bytes_at other at n ≡ bytes_at entry at n
  after at n h =
      let on : to + (at - to) ≡ at = omega arith in
      let from-there : (s : List ℕ) → drop (at - to) (drop to s) ≡ drop at s =
      λ s. drop-drop (at - to) to s ∙ ap (λ (m : ℕ). drop m s) on
      in
      ap (take n)
      (sym (from-there other)
      ∙ ap (drop (at - to)) (drop_at (take from entry ++ r) (drop to entry) to front_and_record)
      ∙ from-there entry)

  pub record_there : match_at other k ≡ r
  record_there =
      rw (append_assoc (take from entry) r (drop to entry), drop_at (take from entry) (r ++ drop to entry) from front_size)
      (take_at r (drop to entry) match_size size)

  pub others_stay : (j : ℕ) → j ≢ k → match_at other j ≡ match_at entry j
  others_stay j differ = go (ltb j k) refl
    where
      go : (b : Bool) → ltb j k ≡ b → match_at other j ≡ match_at entry j
      go true e =
          let l = ltb-true j k e in
          before (head_size + j * match_size) match_size (omega (arith, l))
      go false e = behind (eq-or-lt_of_le (ltb-false j k e))
        where
          behind : (k ≡ j) ⊎ (k < j) → match_at other j ≡ match_at entry j
          behind (inl same) = absurd (differ (sym same))
          behind (inr l) = after (head_size + j * match_size) match_size (omega (arith, l))

  pub priority_stays : priority_of other ≡ priority_of entry
  priority_stays =
      let same = before 0 head_size (omega arith) in
      number_same other entry 0 0 head_size
      (λ i l.
      rw zero-add
      (sym (get_or-take head_size other i 0 l) ∙ ap (λ (s : List ℕ). byte_at s i) same ∙ get_or-take head_size entry i 0 l))

-- an entry of the right size, with a low priority and records that keep their rules, conforms

abbrev pub read_of : List Key → List ℕ → Entry
read_of ks entry = record { priority = priority_of entry; matches = matches_from entry 0 ks }

module _ (ks : List Key) (entry : List ℕ) (size : length entry ≡ head_size + match_size * length ks) (low : ltb (priority_of entry) (2 ^ 31) ≡ true)
    (each : (j : ℕ) (y : Key) → get_elem? ks j ≡ some y → match_ok y (match_at entry j) ≡ true) where
  rules_kept : (j : ℕ) → j < length ks → rule_test ks entry j ≡ ok tt
  rules_kept j l = go (get_elem? ks j) refl
    where
      go : (o : Option Key) → get_elem? ks j ≡ o
          → require (asked o (λ y. match_ok y (match_at entry j))) 20 in_entry (head_size + j * match_size) ≡ ok tt
      go none h = refl
      go (some y) h = rw (each j y h)

  pub conforms_so : entry_of ks entry ≡ ok (read_of ks entry)
  unfolding entry_of
  conforms_so =
      rw (
        eq-eqb (length entry) (head_size + match_size * length ks) size,
        low,
        all_pass (rule_test ks entry) (length ks) rules_kept,
      )

-- so does one that conforms, with another record that keeps its rule

module _ (ks : List Key) (entry : List ℕ) (e : Entry) (conforms : entry_of ks entry ≡ ok e) (k : ℕ) (x : Key)
    (there : get_elem? ks k ≡ some x) where
  right_size : length entry ≡ head_size + match_size * length ks
  right_size = eqb-true (length entry) (head_size + match_size * length ks) (entry_read ks entry e conforms).size

  pub inside : head_size + suc k * match_size ≤ length entry
  inside = let l = some_below ks k x there in omega (arith, l, right_size)

  module _ (r : List ℕ) (size : length r ≡ match_size) where
    -- what holds of the new record for its key, and of every old one for its own, holds of every record
    pub each_record : (P : ℕ → Key → List ℕ → Type 0) → P k x r → ((j : ℕ) (y : Key) → get_elem? ks j ≡ some y → P j y (match_at entry j))
        → (j : ℕ) (y : Key) → get_elem? ks j ≡ some y → P j y (match_at (with_record entry k r) j)
    each_record P new old j y h = go (eqb j k) refl
      where
        go : (b : Bool) → eqb j k ≡ b → P j y (match_at (with_record entry k r) j)
        go true same =
            let at : k ≡ j = sym (eqb-true j k same) in
            let is : x ≡ y = cc (sym there ∙ ap (get_elem? ks) at ∙ h) in
            subst (λ (i : ℕ). P i y (match_at (with_record entry k r) i)) at
            (subst (λ (z : Key). P k z (match_at (with_record entry k r) k)) is (rw (record_there entry r k inside size) new))
        go false differ = rw (others_stay entry r k inside size j (eqb-false j k differ)) (old j y h)

    pub still_conforms : match_ok x r ≡ true → entry_of ks (with_record entry k r) ≡ ok (read_of ks (with_record entry k r))
    still_conforms kept =
        conforms_so ks (with_record entry k r) (same_size entry r k inside size ∙ right_size)
        (rw (priority_stays entry r k inside size) (entry_read ks entry e conforms).low)
        (each_record (λ i y s. match_ok y s ≡ true) kept (λ i y. match_kept ks entry e i y conforms))

-- a record that is written

abbrev pub written : Match → List ℕ
written m = match_record 1 m.length m.first m.second

pub record Fits (x : Key) (m : Match) : Type 0 where
  pub first : m.first < 2 ^ x.width
  pub second : m.second < 2 ^ x.width
  pub length : m.length < 256
  pub rule : kind_rule x.kind x.width m ≡ true

module _ (x : Key) (wide : x.width ≤ 128) (m : Match) (fits : Fits x m) where
  in_sixteen : (n : ℕ) → n < 2 ^ x.width → n < 256 ^ 16
  in_sixteen n l = lt_of_lt_of_le {m = 2 ^ x.width} l (pow_mono {i = x.width} {j = 128} wide)

  first_there : number_at (written m) 4 16 ≡ m.first
  first_there = number_back (written m) (big_endian 16 m.second) 4 16 m.first refl (in_sixteen m.first fits.first)

  second_there : number_at (written m) 20 16 ≡ m.second
  second_there =
      number_back (written m) [] 20 16 m.second (sym (append-nil (big_endian 16 m.second))) (in_sixteen m.second fits.second)

  pub written_reads : match_of x (written m) ≡ m
  written_reads = rw (first_there, second_there)

  pub written_kept : match_ok x (written m) ≡ true
  written_kept =
      rw (
        first_there,
        second_there,
        lt-ltb m.first (2 ^ x.width) fits.first,
        lt-ltb m.second (2 ^ x.width) fits.second,
      )
      fits.rule

  pub written_bytes : Bytes (written m)
  written_bytes =
      let first = big_endian 16 m.first in
      let second = big_endian 16 m.second in
      let numbers = append_bytes first second (number_bytes 16 m.first) (number_bytes 16 m.second) in
      (lit< tt, (fits.length, (lit< tt, (lit< tt, numbers))))
