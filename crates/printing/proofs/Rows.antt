-- Pieces written one after the other are written as one: the second begins where the first ended, and does not fit where the first
-- did not.
use Prim.Native.Nat.{ℕ, ◌+◌, ◌≤◌, ◌<◌}
use native.Mathlib.Omega.{arith}
use mathlib.Core.Path.{◌≡◌, refl, sym, subst, ◌∙◌}
use mathlib.Core.List.{List, [], ◌++◌}
use lib.ListN.{length, length-append}
use lib.Seq.{sets, length-sets}
use Rattle.number.proofs.BigEndian.{sets_append}
use Rattle.printing.specs.Writing.{Wrote}

-- one piece

module _ (a : List ℕ) (from : ℕ) (s : List ℕ) where
  pub nothing_fits : length a < from → Wrote a from s a from
  nothing_fits h = record { kept = refl; ends = omega arith; stored = λ k. absurd (omega arith) }

  pub does_not_fit : from ≤ length a → length a < from + length s → Wrote a from s a (length a + 1)
  does_not_fit g h = record { kept = refl; ends = omega arith; stored = λ k. absurd (omega arith) }

  pub all_written : {b : List ℕ} → from + length s ≤ length a → b ≡ sets a from s → Wrote a from s b (from + length s)
  all_written h same = record { kept = rw (same, length-sets); ends = omega arith; stored = λ k. same }

pub none_written : (a : List ℕ) (from : ℕ) → Wrote a from [] a from
none_written a from = record { kept = refl; ends = omega arith; stored = λ k. refl }

-- the same bytes, and one piece after another

pub wrote_as : {a b : List ℕ} {from r : ℕ} {s t : List ℕ} → s ≡ t → Wrote a from s b r → Wrote a from t b r
wrote_as {a} {b} {from} {r} e w = subst (λ (x : List ℕ). Wrote a from x b r) e w

pub wrote_on : {a b c : List ℕ} {from i j : ℕ} {s t : List ℕ} → Wrote a from s b i → Wrote b i t c j → Wrote a from (s ++ t) c j
wrote_on {a} {b} {c} {from} {i} {j} {s} {t} v w =
    let l = length-append s t in
    record {
      kept = w.kept ∙ v.kept;
      ends = omega (arith, l, v.kept, v.ends, w.ends);
      stored = λ h.
          let there : i ≡ from + length s = omega (arith, l, v.ends) in
          let second = w.stored (omega (arith, l, v.kept, there)) in
          second ∙ rw (there, v.stored (omega (arith, l))) (sym (sets_append a from s t));
    }
