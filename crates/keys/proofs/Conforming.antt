-- The keys' records of an entry as matches; and what is known of an entry that conforms.
use Prim.Native.Nat.{ℕ, zero, suc, ◌+◌, ◌*◌, ◌^◌, ◌<◌}
use mathlib.Core.Path.{◌≡◌, refl, sym, ap, ◌∙◌}
use mathlib.Core.Bool.{true}
use mathlib.Core.Option.{some, none-ne-some}
use mathlib.Core.List.{List, [], ◌∷◌}
use native.Mathlib.Nat.{add-zero}
use native.Mathlib.Omega.{arith}
use lib.Dec.{eqb, ltb}
use lib.ListN.{length, get_elem?}
use borrow.Author.Tests.{eqb-true, ltb-true}
use Rattle.paper.specs.Answers.{ok, refused, ◌>>=◌, require, in_turn, Input, in_entry}
use Rattle.paper.specs.Keys.{Key, record_at, key_of, keys_from}
use Rattle.paper.specs.Entry.{Entry, head_size, match_size, match_at, match_of, match_ok, matches_from, priority_of, rule_test, entry_of}
use Rattle.paper.proofs.Basics.{some_below}
use Rattle.paper.proofs.Stages.{require_ok}
use Rattle.paper.proofs.InTurn.{each_passes}
use Rattle.keys.specs.Says.{conforms}
use Rattle.keys.proofs.Answering.{required, passed_on, refused_on}
use Rattle.keys.proofs.Records.{key_at}

pub matches_length : (entry : List ℕ) (j : ℕ) (ks : List Key) → length (matches_from entry j ks) ≡ length ks
matches_length entry j [] = refl
matches_length entry j (key ∷ ks) = ap suc (matches_length entry (suc j) ks)

match_from : (entry : List ℕ) (j : ℕ) (ks : List Key) (k : ℕ) {key : Key} → get_elem? ks k ≡ some key
    → get_elem? (matches_from entry j ks) k ≡ some (match_of key (match_at entry (j + k)))
match_from entry j [] k e = absurd (none-ne-some _ e)
match_from entry j (x ∷ ks) zero {key} e =
    let q : x ≡ key = cc in
    rw (add-zero j, q)
match_from entry j (x ∷ ks) (suc k) e =
    let z : j + suc k ≡ suc j + k = omega arith in
    rw z (match_from entry (suc j) ks k e)

pub match_at_lem : (list entry : List ℕ) (n k : ℕ) → k < n
    → get_elem? (matches_from entry 0 (keys_from list 0 n)) k ≡ some (match_of (key_of (record_at list k)) (match_at entry k))
match_at_lem list entry n k h =
    let z : 0 + k ≡ k = omega arith in
    match_from entry 0 (keys_from list 0 n) k (key_at list n k h) ∙ rw z

-- the record of a key that passes its test keeps the key's rule
kept : (ks : List Key) (entry : List ℕ) (k : ℕ) {key : Key} → rule_test ks entry k ≡ ok tt → get_elem? ks k ≡ some key
    → match_ok key (match_at entry k) ≡ true
kept ks entry k e f = require_ok _ 20 in_entry (head_size + k * match_size) tt (rw f at e)

abbrev pub entry_in : List Key → List ℕ → Entry
entry_in ks entry = record { priority = priority_of entry; matches = matches_from entry 0 ks }

module _ (ks : List Key) (entry : List ℕ) {x : Entry} (e : entry_of ks entry ≡ ok x) where
  parts : (eqb (length entry) (head_size + match_size * length ks) ≡ true) × (ltb (priority_of entry) (2 ^ 31) ≡ true)
      × (in_turn (rule_test ks entry) 0 (length ks) ≡ ok tt) × (entry_in ks entry ≡ x)
  unfolding entry_of
  parts =
      let right = eqb (length entry) (head_size + match_size * length ks) in
      let low = ltb (priority_of entry) (2 ^ 31) in
      let each = in_turn (rule_test ks entry) 0 (length ks) in
      let rules = each >>= λ _. ok (entry_in ks entry) in
      let p = required 19 in_entry (length entry) right (require low 20 in_entry 0 >>= λ _. rules) e in
      let q = required 20 in_entry 0 low rules p.1 in
      let r = passed_on (λ _. entry_in ks entry) each q.1 in
      (p.0, q.0, r.1, r.2)

  pub entry_length : length entry ≡ head_size + match_size * length ks
  entry_length = eqb-true _ _ parts.0

  pub priority_below : priority_of entry < 2 ^ 31
  priority_below = ltb-true _ _ parts.1

  pub is_entry : x ≡ entry_in ks entry
  is_entry = sym parts.3

  pub good_match : (k : ℕ) {key : Key} → get_elem? ks k ≡ some key → match_ok key (match_at entry k) ≡ true
  good_match k {key} f =
      kept ks entry k (each_passes (rule_test ks entry) (length ks) parts.2 k (some_below ks k key f)) f

-- what check_entry's answer tells

pub entered : (ks : List Key) (entry : List ℕ) → conforms ks entry ≡ ok tt
    → entry_of ks entry ≡ ok (entry_in ks entry)
entered ks entry e =
    let p = passed_on (λ _. tt) (entry_of ks entry) e in
    p.1 ∙ ap ok (is_entry ks entry p.1)

pub not_entered : (ks : List Key) (entry : List ℕ) {n : ℕ} {i : Input} {at : ℕ}
    → conforms ks entry ≡ refused n i at → entry_of ks entry ≡ refused n i at
not_entered ks entry e = refused_on (λ _. tt) (entry_of ks entry) e
