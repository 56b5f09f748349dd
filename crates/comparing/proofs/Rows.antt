-- Records one after the other: so many first ones of more, and those after them, are records again.
use Prim.Native.Nat.{ℕ, zero, suc, ◌+◌, ◌≤◌, ◌<◌}
use native.Mathlib.Nat.{add-zero, zero-add}
use native.Mathlib.Omega.{arith}
use mathlib.Core.Path.{◌≡◌, refl, sym, ap, ap₂, ◌∙◌}
use mathlib.Core.Bool.{Bool, true, false, ◌&&◌}
use mathlib.Core.List.{List, [], ◌∷◌}
use lib.ListN.{length, take, drop}
use Rattle.paper.specs.Numbers.{bytes_at}
use Rattle.paper.specs.Tokens.{same_bytes}
use Rattle.paper.specs.Code.{instruction_size}
use Rattle.paper.specs.Loading.{instruction_at}
use Rattle.paper.specs.Comparing.{records_from, same_records}
use Rattle.paper.proofs.Basics.{and_false}
use Rattle.paper.proofs.Words.{same_bytes_lem, not_bytes, bytes_not}
use Rattle.comparing.specs.Scratch.{records_by}

module _ (has : ℕ → List ℕ) where
  pub records_length : (i n : ℕ) → length (records_by has i n) ≡ n
  records_length i zero = refl
  records_length i (suc n) = ap suc (records_length (i + 1) n)

  pub records_take : (i m n : ℕ) → take m (records_by has i (m + n)) ≡ records_by has i m
  records_take i zero n = refl
  records_take i (suc m) n =
      let more : suc m + n ≡ suc (m + n) = omega arith in
      rw more (ap (λ (s : List (List ℕ)). has i ∷ s) (records_take (i + 1) m n))

  pub records_drop : (i m n : ℕ) → drop m (records_by has i (m + n)) ≡ records_by has (i + m) n
  records_drop i zero n = rw (zero-add, add-zero)
  records_drop i (suc m) n =
      let more : suc m + n ≡ suc (m + n) = omega arith in
      let e : i + 1 + m ≡ i + suc m = omega arith in
      rw more (records_drop (i + 1) m n ∙ ap (λ (j : ℕ). records_by has j n) e)

pub records_same : (has had : ℕ → List ℕ) (i n : ℕ) → ((j : ℕ) → i ≤ j → j < i + n → has j ≡ had j) → records_by has i n ≡ records_by had i n
records_same has had i zero same = refl
records_same has had i (suc n) same =
    ap₂ ◌∷◌ (same i (omega arith) (omega arith)) (records_same has had (i + 1) n (λ j low high. same j (omega arith) (omega arith)))

-- those of blocks

abbrev pub block_record : List ℕ → ℕ → List ℕ
block_record blocks i = bytes_at blocks (instruction_at i) instruction_size

pub of_blocks : (blocks : List ℕ) (i n : ℕ) → records_from blocks i n ≡ records_by (block_record blocks) i n
of_blocks blocks i zero = refl
of_blocks blocks i (suc n) = ap (λ (s : List (List ℕ)). block_record blocks i ∷ s) (of_blocks blocks (i + 1) n)

module _ (blocks : List ℕ) where
  pub blocks_length : (i n : ℕ) → length (records_from blocks i n) ≡ n
  blocks_length i n = ap length (of_blocks blocks i n) ∙ records_length (block_record blocks) i n

  pub blocks_take : (i m n : ℕ) → take m (records_from blocks i (m + n)) ≡ records_from blocks i m
  blocks_take i m n =
      ap (take m) (of_blocks blocks i (m + n)) ∙ records_take (block_record blocks) i m n ∙ sym (of_blocks blocks i m)

  pub blocks_drop : (i m n : ℕ) → drop m (records_from blocks i (m + n)) ≡ records_from blocks (i + m) n
  blocks_drop i m n =
      ap (drop m) (of_blocks blocks i (m + n)) ∙ records_drop (block_record blocks) i m n ∙ sym (of_blocks blocks (i + m) n)

-- the test for equal records: lists of two lengths differ, and the order of the two plays no part

pub other_length : (r s : List (List ℕ)) → (length r ≡ length s → ⊥) → same_records r s ≡ false
other_length [] [] d = absurd (d refl)
other_length [] (b ∷ s) d = refl
other_length (a ∷ r) [] d = refl
other_length (a ∷ r) (b ∷ s) d = rw (other_length r s (λ e. d (ap suc e))) (and_false (same_bytes a b))

bytes_swapped : (a b : List ℕ) → same_bytes a b ≡ same_bytes b a
bytes_swapped a b = go (same_bytes a b) refl
  where
    go : (t : Bool) → same_bytes a b ≡ t → same_bytes a b ≡ same_bytes b a
    go true e = rw (same_bytes_lem a b e)
    go false e = e ∙ sym (bytes_not b a (λ same. not_bytes a b e (sym same)))

pub swapped : (r s : List (List ℕ)) → same_records r s ≡ same_records s r
swapped [] [] = refl
swapped [] (b ∷ s) = refl
swapped (a ∷ r) [] = refl
swapped (a ∷ r) (b ∷ s) = ap₂ ◌&&◌ (bytes_swapped a b) (swapped r s)
