-- 02 i, "Some keys must not be left out": what its flag changes. "Byte 3 of a key record becomes a flag, 0 or 1; with 1 the key must be
-- present, and its absence is number 20. Other values are number 3. Old lists have 0 there and read as before. .. Demands 2 and 3 speak
-- of entries that conform in this sense."
use Rattle.std.specs.Prelude.{ℕ, ◌+◌, ◌*◌, ◌^◌, ◌<◌, ◌≡◌, Bool, true, not, cond, ◌&&◌, List, ◌∷◌, ◌++◌, length, take, drop, eqb, ltb, leb}
use Rattle.std.proofs.Math.Option.{some}
use Rattle.std.proofs.Math.ListN.{get_elem?}
use Rattle.paper.specs.Answers.{Answer, ok, ◌>>=◌, require, in_turn, Ran, in_entry}
use Rattle.paper.specs.Numbers.{byte_at, bytes_at}
use Rattle.paper.specs.Tokens.{bytes, same_bytes, is_key}
use Rattle.paper.specs.Keys.{Key, all_zero, record_size, records_in, record_at, name_of, record_ok, RecordRule, keys_by, keys}
use Rattle.paper.specs.Entry.{Entry, head_size, match_size, match_at, is_exact, present_rule, match_ok, matches_from, priority_of, asked, entry_of}
use Rattle.paper.specs.Types.{typed}
use Rattle.paper.specs.Meaning.{value_of, is_true}
use Rattle.paper.specs.Loading.{program, loaded, run_along}
use Rattle.paper.specs.Calls.{sized, tree, Restriction, restriction, judge_answer, load_answer, ran_to, run_answer}
use Rattle.paper.specs.Faults.{EntryRules}

-- how 01 had it: "Bytes 3 to 15 zero."

abbrev pub layout_before : List ℕ → Bool
layout_before r =
    leb 1 (byte_at r 0) && leb (byte_at r 0) 64
    && leb (byte_at r 1) 4
    && leb 1 (byte_at r 2) && leb (byte_at r 2) 128
    && all_zero (bytes_at r 3 13)
    && is_key (name_of r) && not (same_bytes (name_of r) (bytes "true")) && not (same_bytes (name_of r) (bytes "false"))
    && all_zero (drop (16 + byte_at r 0) r)

abbrev pub rule_before : RecordRule
rule_before k r = layout_before r

unfoldable pub keys_before : List ℕ → Answer (List Key)
keys_before list = keys_by rule_before list

-- "An absent key has 35 zero bytes after byte 0 and may not be exact."

abbrev pub absent_before : Key → List ℕ → Bool
absent_before k r = not (is_exact k.kind) && all_zero (drop 1 r)

abbrev pub match_before : Key → List ℕ → Bool
match_before k r = cond (eqb (byte_at r 0) 0) (absent_before k r) (eqb (byte_at r 0) 1 && present_rule k r)

abbrev pub test_before : List Key → List ℕ → ℕ → Answer (Unit {0})
test_before ks entry k =
    require (asked (get_elem? ks k) (λ key. match_before key (match_at entry k))) 20 in_entry (head_size + k * match_size)

unfoldable pub entry_before : List Key → List ℕ → Answer Entry
entry_before ks entry =
    require (eqb (length entry) (head_size + match_size * length ks)) 19 in_entry (length entry)
    >>= λ _. require (ltb (priority_of entry) (2 ^ 31)) 20 in_entry 0
    >>= λ _. in_turn (test_before ks entry) 0 (length ks)
    >>= λ _. ok (record { priority = priority_of entry; matches = matches_from entry 0 ks })

-- the calls with these in place of `keys` and `entry_of`. Every other call reads lists and entries through `restriction` and `entry_of`

unfoldable pub restriction_before : List ℕ → List ℕ → Answer Restriction
unfolding keys_before tree typed
restriction_before text list =
    sized text
    >>= λ _. keys_before list
    >>= λ ks. tree text
    >>= λ t. typed ks t
    >>= λ _. ok (record { keys = ks; root = t })

unfoldable pub judge_before : List ℕ → List ℕ → List ℕ → Answer Bool
unfolding restriction_before entry_before value_of
judge_before text list entry =
    restriction_before text list
    >>= λ r. entry_before r.keys entry
    >>= λ e. ok (is_true (value_of r.keys e r.root))

unfoldable pub load_before : List ℕ → List ℕ → Answer ℕ
unfolding keys_before loaded
load_before list blocks = keys_before list >>= λ ks. loaded ks blocks

unfoldable pub run_before : List ℕ → List ℕ → List ℕ → Answer Ran
unfolding keys_before loaded entry_before run_along
run_before list blocks entry =
    keys_before list
    >>= λ ks. loaded ks blocks
    >>= λ _. entry_before ks entry
    >>= λ e. ok (ran_to (run_along ks e (program blocks)))

-- "Old lists have 0 there and read as before."

-- every record has 0 there
abbrev pub NoFlags : List ℕ → Type 0
NoFlags list = (k : ℕ) → k < records_in list → byte_at (record_at list k) 3 ≡ 0

-- whether it passes or not, such a list gets the answers that it got; and a list that passed is one of them
pub record OldListsAsBefore : Type 0 where
  pub passed_before : (list : List ℕ) (ks : List Key) → keys_before list ≡ ok ks → NoFlags list
  pub read : (list : List ℕ) → NoFlags list → keys list ≡ keys_before list
  pub entries : (list entry : List ℕ) (ks : List Key) → NoFlags list → keys list ≡ ok ks → entry_of ks entry ≡ entry_before ks entry
  pub checked : (text list : List ℕ) → NoFlags list → restriction text list ≡ restriction_before text list
  pub judged : (text list entry : List ℕ) → NoFlags list → judge_answer text list entry ≡ judge_before text list entry
  pub loads : (list blocks : List ℕ) → NoFlags list → load_answer list blocks ≡ load_before list blocks
  pub runs : (list blocks entry : List ℕ) → NoFlags list → run_answer list blocks entry ≡ run_before list blocks entry

-- a list with flags: "a flag, 0 or 1 .. Other values are number 3", and no other rule of a record changes

-- a record with 0 in byte 3
abbrev pub unflagged : List ℕ → List ℕ
unflagged r = take 3 r ++ (0 ∷ drop 4 r)

pub record OnlyTheFlag : Type 0 where
  pub laid_out : (r : List ℕ) → length r ≡ record_size → record_ok r ≡ (leb (byte_at r 3) 1 && layout_before (unflagged r))
  -- and it says whether the key must be present
  pub told : (list : List ℕ) (ks : List Key) (k : ℕ) (x : Key) → keys list ≡ ok ks → get_elem? ks k ≡ some x
      → x.required ≡ eqb (byte_at (record_at list k) 3) 1

-- an entry: a record breaks its rule where it did before, and where it is absent of a key that must be present. An exact key must be
-- present whatever its flag
pub record OnlyAbsence : Type 0 where
  pub of_present : (k : Key) (r : List ℕ) → (byte_at r 0 ≡ 0 → ⊥) → match_ok k r ≡ match_before k r
  pub of_absent : (k : Key) (r : List ℕ) → byte_at r 0 ≡ 0 → match_ok k r ≡ (not k.required && match_before k r)
  pub of_exact : (k : Key) (r : List ℕ) → is_exact k.kind ≡ true → match_ok k r ≡ match_before k r

-- "the key must be present, and its absence is number 20": a fault of the table at the key's record, so that every entry that conforms
-- has the key
pub record MustBePresent : Type 0 where
  pub refuses : (ks : List Key) (entry : List ℕ) (k : ℕ) (x : Key) → get_elem? ks k ≡ some x → x.required ≡ true
      → byte_at (match_at entry k) 0 ≡ 0 → EntryRules ks entry 20 (head_size + k * match_size)
  pub conforming : (ks : List Key) (entry : List ℕ) (e : Entry) (k : ℕ) (x : Key) → entry_of ks entry ≡ ok e → get_elem? ks k ≡ some x
      → x.required ≡ true → byte_at (match_at entry k) 0 ≡ 1
