-- A text is true on an entry exactly where each of its parts is, which are asked one after the other.
use Prim.Native.Nat.{ℕ, zero, suc, ◌+◌, ◌<◌}
use native.Mathlib.Nat.{add-zero, zero-add, eq-or-lt_of_le}
use native.Mathlib.Omega.{arith}
use mathlib.Core.Path.{◌≡◌, refl, sym, subst}
use mathlib.Core.Logic.{◌⊎◌, inl, inr, ◌↔◌}
use mathlib.Core.Bool.{Bool, true, false, and-eq-true_iff}
use mathlib.Core.List.{List}
use Rattle.paper.specs.BlocksRoundTrip.{All}
use Rattle.paper.specs.Parts.{Part}
use Rattle.paper.specs.Explained.{holds_on}
use Rattle.paper.proofs.PartsDecide.{parts_decide}
use Rattle.keys.specs.Says.{keys_in}
use Rattle.operands.specs.Conforming.{entry_in}
use Rattle.trees.specs.Standing.{tree_at}
use Rattle.judging.specs.Holding.{tree_holds}
use Rattle.parts.specs.Rows.{root_at, part_at, parts_on, each}
use Rattle.parts.proofs.Stored.{each_all}
use Rattle.reading.specs.Parted.{PassedParts}
use Rattle.counting.specs.Tallied.{all_below}

module _ (test : ℕ → Bool) where
  all_told : (n : ℕ) → all_below test n ≡ true → (j : ℕ) → j < n → test j ≡ true
  all_told zero e j h = absurd (omega arith)
  all_told (suc n) e j h =
      let (before, here) = (and-eq-true_iff (all_below test n) (test n)).0 e in
      go here (all_told n before j) (eq-or-lt_of_le (omega arith))
    where
      go : test n ≡ true → (j < n → test j ≡ true) → (j ≡ n) ⊎ (j < n) → test j ≡ true
      go here earlier (inl same) = rw same here
      go here earlier (inr less) = earlier less

  all_tells : (n : ℕ) → ((j : ℕ) → j < n → test j ≡ true) → all_below test n ≡ true
  all_tells zero each = refl
  all_tells (suc n) each = (and-eq-true_iff (all_below test n) (test n)).1 (all_tells n (λ j h. each j (omega arith)), each n (omega arith))

all_each : {A : Type 0} (P : A → Type 0) (has : ℕ → A) (k n : ℕ) → ((j : ℕ) → j < n → P (has (k + j))) → All P (each has k n)
unfolding each
all_each P has k zero each = tt
all_each P has k (suc n) each = (
  subst (λ (i : ℕ). P (has i)) (add-zero k) (each 0 (omega arith)),
  all_each P has (suc k) n (λ j h. let e : k + suc j ≡ suc k + j = omega arith in subst (λ (i : ℕ). P (has i)) e (each (suc j) (omega arith))),
)

same_truth : (b c : Bool) → (b ≡ true) ↔ (c ≡ true) → b ≡ c
same_truth true c h = sym (h.0 refl)
same_truth false true h = h.1 refl
same_truth false false h = refl

module _ (text list entry nodes rows : List ℕ) (n : ℕ) (p : PassedParts text list nodes rows n) where
  -- the tree of part k, and that of the text
  abbrev part_true : ℕ → Bool
  part_true k = tree_holds text list entry nodes (root_at rows k)

  abbrev all_true : Bool
  all_true = tree_holds text list entry nodes p.root

  abbrev True : Part → Type 0
  True u = holds_on (keys_in list) (entry_in list entry) u ≡ true

  pub parts_decided : all_below part_true n ≡ all_true
  parts_decided =
      let (apart, together) = parts_decide text (tree_at text nodes p.root) (parts_on text nodes rows n) p.rooted.typed.read p.parted.are (keys_in list) (entry_in list entry) in
      same_truth (all_below part_true n) all_true (
        λ below. together (all_each True (part_at text nodes rows) 0 n (λ j h. rw (zero-add j) (all_told part_true n below j h))),
        λ whole. all_tells part_true n (λ j h. rw (sym (zero-add j)) (each_all True (part_at text nodes rows) 0 n (apart whole) j h)),
      )
