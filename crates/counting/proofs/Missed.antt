-- The parts of an entry, one more: its number grows by one where it is false on the entry, and then not all are true.
use Prim.Native.Nat.{ℕ, ◌+◌, ◌<◌}
use native.Mathlib.Numerals.{add-one}
use mathlib.Core.Path.{◌≡◌, refl, sym, ap, ◌∙◌}
use mathlib.Core.Bool.{Bool, true, false, not, ◌&&◌, and-true}
use mathlib.Core.List.{List}
use lib.ListN.{length, get_or, set}
use Rattle.paper.specs.CountedRight.{one}
use Rattle.paper.proofs.Basics.{and_false}
use Rattle.counting.specs.Tallied.{Grew, all_below}
use Rattle.counting.proofs.Growing.{grew_none, grew_stored, grew_nothing}

-- by a test of each part: the numbers of the first k have grown, and whether all of these are true
abbrev pub Missed : (ℕ → Bool) → ℕ → List ℕ → List ℕ → Bool → Type 0
Missed test k before now all = Grew k (λ j. one (not (test j))) before now × (all ≡ all_below test k)

module _ (test : ℕ → Bool) where
  pub missed_none : (numbers : List ℕ) → Missed test 0 numbers numbers true
  missed_none numbers = (grew_none (λ j. one (not (test j))) numbers, refl)

  module _ {k : ℕ} {before now : List ℕ} {all : Bool} (m : Missed test k before now all) where
    all_next : {b : Bool} → test k ≡ b → all_below test (k + 1) ≡ (all_below test k && b)
    all_next e = ap (all_below test) (add-one k) ∙ ap (λ (b : Bool). all_below test k && b) e

    pub missed_false : k < length now → test k ≡ false → Missed test (k + 1) before (set now k (get_or now k 0 + 1)) false
    missed_false inside e =
        (grew_stored m.0 inside (ap (λ (b : Bool). one (not b)) e), sym (all_next e ∙ and_false (all_below test k)))

    pub missed_true : test k ≡ true → Missed test (k + 1) before now all
    missed_true e =
        (grew_nothing m.0 (ap (λ (b : Bool). one (not b)) e), m.1 ∙ sym (all_next e ∙ and-true (all_below test k)))
