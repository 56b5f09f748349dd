-- Entries run one after the other: after k of them the answers have the byte of each of these, in its place, and the steps of all of them are summed.
use Rattle.std.proofs.Common.{◌≡◌, ℕ, ◌+◌, ◌*◌, ◌%◌, ◌^◌, ◌<◌, Bool, true, false, List, [], ◌∷◌, ◌++◌, map, length, take, drop, set, sym, refl, ap, ◌∙◌, ap₂, true≢false, arith}
use native.Mathlib.Nat.{mod-add-mod}
use mathlib.Core.List.{map-append}
use lib.ListN.{length-map}
use Rattle.paper.specs.Answers.{Answer, ok, refused, ◌>>=◌}
use Rattle.paper.specs.Keys.{Key}
use Rattle.paper.specs.Entry.{Entry}
use Rattle.paper.specs.Loading.{program, run_along, left_true, steps_taken}
use Rattle.paper.specs.Calls.{over, ran_to}
use Rattle.paper.specs.Counting.{entry_size, whole_in, laid_out, entries_in}
use Rattle.paper.specs.RunAll.{ran_on, verdict_byte, steps_on, sum, verdicts_on}
use Rattle.paper.proofs.EntriesLaid.{laid_length, laid_next}
use Rattle.paper.proofs.Overwritten.{over_next}
use Rattle.paper.proofs.RunAllRight.{sum_append}
use Rattle.keys.specs.Says.{conforms}
use Rattle.keys.proofs.Conforming.{entry_in, entered, not_entered}
use Rattle.machine.specs.Running.{passes, byte_of, TellsOf}

-- what passes
pub passing : (a : Answer (Unit {0})) → passes a ≡ true → a ≡ ok tt
passing (ok t) e = refl
passing (refused n i at) e = absurd (true≢false (sym e))

module _ (ks : List Key) (blocks : List ℕ) where
  abbrev byte_in : List ℕ → ℕ
  byte_in e = verdict_byte (ran_on ks blocks e)

  abbrev steps_in : List ℕ → ℕ
  steps_in e = steps_on (ran_on ks blocks e)

  module _ (entry : List ℕ) where
    -- of one that conforms, what its run comes to
    pub tells_run : conforms ks entry ≡ ok tt → (left : Bool) (steps : ℕ)
        → let run = run_along ks (entry_in ks entry) (program blocks) in
        left ≡ left_true run → steps ≡ steps_taken run → TellsOf ks blocks entry (byte_of true left) steps
    unfolding ran_on
    tells_run e left steps left_so steps_so =
        let there = ap (λ (x : Answer Entry). x >>= λ m. ok (ran_to (run_along ks m (program blocks)))) (entered ks entry e) in
        record {
          byte_so = ap (λ b. byte_of true b) left_so ∙ ap verdict_byte (sym there);
          steps_so = steps_so ∙ ap steps_on (sym there);
        }

    -- of one that does not, that it is refused, and no step
    pub tells_none : (a : Answer (Unit {0})) → conforms ks entry ≡ a → passes a ≡ false → (left : Bool) → TellsOf ks blocks entry (byte_of false left) 0
    unfolding ran_on
    tells_none (ok t) e f left = absurd (true≢false f)
    tells_none (refused n i at) e f left =
        let there = ap (λ (x : Answer Entry). x >>= λ m. ok (ran_to (run_along ks m (program blocks)))) (not_entered ks entry e) in
        record { byte_so = ap verdict_byte (sym there); steps_so = ap steps_on (sym there) }

  pub record Tabled (size : ℕ) (entries before : List ℕ) (k : ℕ) (answers : List ℕ) (total : ℕ) : Type 0 where
    pub bytes : answers ≡ over (map byte_in (laid_out size k entries)) before
    pub steps : total ≡ sum (map steps_in (laid_out size k entries)) % 2 ^ 64

  module _ (size : ℕ) (entries before : List ℕ) where
    -- one entry more
    pub tabled_next : {k : ℕ} {answers : List ℕ} {total : ℕ} → Tabled size entries before k answers total → k < length before
        → {entry : List ℕ} → entry ≡ take size (drop (k * size) entries) → {byte steps sum : ℕ} → TellsOf ks blocks entry byte steps
        → sum ≡ (total + steps) % 2 ^ 64 → Tabled size entries before (k + 1) (set answers k byte) sum
    tabled_next {k} {answers} {total} t more {entry} e {byte} {steps} {sum = total'} told added =
        let es = laid_out size k entries in
        let next : es ++ (entry ∷ []) ≡ laid_out size (k + 1) entries = ap (λ x. es ++ (x ∷ [])) e ∙ sym (laid_next size k entries) in
        let bytes = map byte_in es in
        let many : length bytes ≡ k = length-map es byte_in ∙ laid_length size k entries in
        let one_more : sum (map steps_in es) + steps_in entry ≡ sum (map steps_in es ++ (steps_in entry ∷ [])) =
        let both = sum_append (map steps_in es) (steps_in entry ∷ []) in
        omega (arith, both) in
        record {
          bytes =
              ap₂ (λ l i. set l i byte) t.bytes (sym many)
              ∙ over_next bytes before byte (omega (arith, many, more))
              ∙ ap (λ b. over (bytes ++ (b ∷ [])) before) told.byte_so
              ∙ ap (λ l. over l before) (sym (map-append byte_in es (entry ∷ [])))
              ∙ ap (λ fs. over (map byte_in fs) before) next;
          steps =
              added
              ∙ ap₂ (λ a b. (a + b) % 2 ^ 64) t.steps told.steps_so
              ∙ mod-add-mod (sum (map steps_in es)) (2 ^ 64) (steps_in entry)
              ∙ ap (λ m. m % 2 ^ 64) one_more
              ∙ ap (λ l. sum l % 2 ^ 64) (sym (map-append steps_in es (entry ∷ [])))
              ∙ ap (λ fs. sum (map steps_in fs) % 2 ^ 64) next;
        }

    -- all of them
    pub tabled_all : {k : ℕ} {answers : List ℕ} {total : ℕ} → Tabled size entries before k answers total → size ≡ entry_size ks
        → k ≡ whole_in ks entries
        → (total ≡ (verdicts_on ks blocks entries).steps) × (answers ≡ over (verdicts_on ks blocks entries).bytes before)
    unfolding verdicts_on
    tabled_all {k} t s all =
        let es : laid_out size k entries ≡ entries_in ks entries = ap₂ (λ m n. laid_out m n entries) s all in (
          t.steps ∙ ap (λ fs. sum (map steps_in fs) % 2 ^ 64) es,
          t.bytes ∙ ap (λ fs. over (map byte_in fs) before) es,
        )
