-- An entry of the right length is refused by a rule of it alone, with 20 at a place inside it; and so is a run of blocks that are loaded.
use Prim.Native.Nat.{ℕ, zero, suc, ◌+◌, ◌*◌, ◌^◌, ◌≤◌, ◌<◌}
use native.Mathlib.Omega.{arith}
use mathlib.Core.Path.{◌≡◌, refl, sym, ap, ◌∙◌}
use mathlib.Core.Bool.{Bool, true, false}
use mathlib.Core.List.{List}
use lib.ListN.{length, get_elem?}
use lib.Dec.{ltb}
use borrow.Author.Tests.{eq-eqb}
use Rattle.paper.specs.Answers.{Input, in_entry, Answer, ok, refused, ◌>>=◌, require, in_turn}
use Rattle.paper.specs.Keys.{Key}
use Rattle.paper.specs.Entry.{Entry, head_size, match_size, match_at, match_ok, asked, priority_of, rule_test, matches_from, entry_of}
use Rattle.paper.specs.Loading.{program, run_along}
use Rattle.paper.specs.Calls.{ran_to}
use Rattle.paper.specs.Counting.{entry_size}
use Rattle.paper.specs.RunAll.{ran_on}
use Rattle.paper.proofs.Stages.{never_ok}
use Rattle.paper.proofs.EntriesLaid.{some_size}

abbrev pub ByRule : ℕ → ℕ → Input → ℕ → Type 0
ByRule size n i at = (n ≡ 20) × (i ≡ in_entry) × (at < size)

same_refusal : (size m to n : ℕ) (i : Input) (at : ℕ) {A : Type 0} → to < size → m ≡ 20 → ◌≡◌ {A = Answer A} (refused m in_entry to) (refused n i at)
    → ByRule size n i at
same_refusal size m to n i at inside twenty e =
    let number : m ≡ n = cc in
    let input : in_entry ≡ i = cc in
    let place : to ≡ at = cc in
    (sym number ∙ twenty, sym input, omega (arith, inside, place))

module _ (ks : List Key) (entry : List ℕ) where
  rules_refuse : (size n k : ℕ) → head_size + (k + n) * match_size ≤ size → (m : ℕ) (i : Input) (at : ℕ)
      → in_turn (rule_test ks entry) k n ≡ refused m i at → ByRule size m i at
  rules_refuse size zero k room m i at e = absurd (never_ok (sym e))
  rules_refuse size (suc n) k room m i at e =
      go (asked (get_elem? ks k) (λ key. match_ok key (match_at entry k))) e
      (λ later. rules_refuse size n (suc k) (omega (arith, room)) m i at later)
    where
      go : (b : Bool) → (require b 20 in_entry (head_size + k * match_size) >>= λ _. in_turn (rule_test ks entry) (suc k) n) ≡ refused m i at
          → (in_turn (rule_test ks entry) (suc k) n ≡ refused m i at → ByRule size m i at) → ByRule size m i at
      go true e later = later e
      go false e later = same_refusal size 20 (head_size + k * match_size) m i at (omega (arith, room)) refl e

  entry_refused : length entry ≡ entry_size ks → (m : ℕ) (i : Input) (at : ℕ) → entry_of ks entry ≡ refused m i at → ByRule (entry_size ks) m i at
  unfolding entry_of
  entry_refused size m i at e =
      go (ltb (priority_of entry) (2 ^ 31)) (in_turn (rule_test ks entry) 0 (length ks)) refl
      (rw (eq-eqb (length entry) (entry_size ks) size) at e)
    where
      all : Entry
      all = record { priority = priority_of entry; matches = matches_from entry 0 ks }

      go : (b : Bool) (x : Answer (Unit {0})) → in_turn (rule_test ks entry) 0 (length ks) ≡ x
          → (require b 20 in_entry 0 >>= λ _. x >>= λ _. ok all) ≡ refused m i at → ByRule (entry_size ks) m i at
      go false x there e = same_refusal (entry_size ks) 20 0 m i at (some_size ks) refl e
      go true (ok u) there e = absurd (never_ok (sym e))
      go true (refused n j to) there e =
          let (number, input, inside) = rules_refuse (entry_size ks) (length ks) 0 (omega arith) n j to there in
          same_refusal (entry_size ks) n to m i at inside number (ap (λ (x : Input). refused n x to) (sym input) ∙ e)

  pub ran_refused : (blocks : List ℕ) → length entry ≡ entry_size ks → (m : ℕ) (i : Input) (at : ℕ) → ran_on ks blocks entry ≡ refused m i at
      → ByRule (entry_size ks) m i at
  unfolding ran_on
  ran_refused blocks size m i at e = go (entry_of ks entry) refl e
    where
      go : (x : Answer Entry) → entry_of ks entry ≡ x → (x >>= λ on. ok (ran_to (run_along ks on (program blocks)))) ≡ refused m i at
          → ByRule (entry_size ks) m i at
      go (ok on) there e = absurd (never_ok (sym e))
      go (refused n j to) there e =
          let (number, input, inside) = entry_refused size n j to there in
          same_refusal (entry_size ks) n to m i at inside number (ap (λ (x : Input). refused n x to) (sym input) ∙ e)
