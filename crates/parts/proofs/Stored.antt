-- Rows of parts: one more after the first n, and the same rows of another slice.
use Prim.Native.Nat.{ℕ, zero, suc, ◌+◌, ◌≤◌, ◌<◌}
use native.Mathlib.Nat.{add-zero, zero-add}
use native.Mathlib.Numerals.{add-one}
use native.Mathlib.Omega.{arith}
use mathlib.Core.Path.{◌≡◌, refl, ap, ap₂, ◌∙◌}
use mathlib.Core.List.{List, [], ◌∷◌, ◌++◌}
use lib.ListN.{length, get_or, set, length-set}
use lib.Seq.{get_or-set_same, get_or-set_other}
use Rattle.paper.specs.Parts.{Stretch}
use Rattle.paper.specs.BlocksRoundTrip.{All}
use Rattle.parts.specs.Rows.{row_at, Has, stretch_at, root_at, each, stretches_on}

module _ {A : Type 0} where
  each_snoc : (has : ℕ → A) (k n : ℕ) → each has k (suc n) ≡ each has k n ++ (has (k + n) ∷ [])
  unfolding each
  each_snoc has k zero = rw (add-zero k)
  each_snoc has k (suc n) =
      let e : suc k + n ≡ k + suc n = omega arith in
      ap (λ (l : List A). has k ∷ l) (each_snoc has (suc k) n ∙ ap (λ (j : ℕ). each has (suc k) n ++ (has j ∷ [])) e)

  pub each_same : (has had : ℕ → A) (k n : ℕ) → ((j : ℕ) → k ≤ j → j < k + n → has j ≡ had j) → each has k n ≡ each had k n
  unfolding each
  each_same has had k zero same = refl
  each_same has had k (suc n) same =
      ap₂ (λ (a : A) (l : List A). a ∷ l) (same k (omega arith) (omega arith))
      (each_same has had (suc k) n (λ j low high. same j (omega arith) (omega arith)))

  pub each_length : (has : ℕ → A) (k n : ℕ) → length (each has k n) ≡ n
  unfolding each
  each_length has k zero = refl
  each_length has k (suc n) = ap suc (each_length has (suc k) n)

  -- what all have, each has
  pub each_all : (P : A → Type 0) (has : ℕ → A) (k n : ℕ) → All P (each has k n) → (j : ℕ) → j < n → P (has (k + j))
  unfolding each
  each_all P has k zero all j h = absurd (omega arith)
  each_all P has k (suc n) all zero h = rw add-zero all.0
  each_all P has k (suc n) all (suc j) h =
      let e : k + suc j ≡ suc k + j = omega arith in
      rw e (each_all P has (suc k) n all.1 j (omega arith))

-- a stretch, stored after the first n

module _ (rows after : List ℕ) (n start end : ℕ) (room : Has rows n) (put : after ≡ set (set rows (row_at n) start) (row_at n + 1) end) where
  word_kept : (i : ℕ) → i < row_at n → get_or after i 0 ≡ get_or rows i 0
  word_kept i h =
      rw put
      (get_or-set_other (set rows (row_at n) start) (row_at n + 1) i end 0 (λ e. omega arith)
      ∙ get_or-set_other rows (row_at n) i start 0 (λ e. omega arith))

  stretch_kept : (k : ℕ) → k < n → stretch_at after k ≡ stretch_at rows k
  stretch_kept k h =
      λ j. record { from = word_kept (row_at k) (omega arith) j; to = word_kept (row_at k + 1) (omega arith) j }

  start_new : get_or after (row_at n) 0 ≡ start
  start_new =
      rw put
      (get_or-set_other (set rows (row_at n) start) (row_at n + 1) (row_at n) end 0 (λ e. omega arith)
      ∙ get_or-set_same rows (row_at n) start 0 (omega arith))

  end_new : get_or after (row_at n + 1) 0 ≡ end
  end_new = rw put (get_or-set_same (set rows (row_at n) start) (row_at n + 1) end 0 (simp length-set (omega arith)))

  stretch_new : stretch_at after n ≡ record { from = start; to = end }
  stretch_new = λ j. record { from = start_new j; to = end_new j }

  pub stretch_stored : stretches_on after (n + 1) ≡ stretches_on rows n ++ (record { from = start; to = end } ∷ [])
  stretch_stored =
      let last : stretch_at after (0 + n) ≡ record { from = start; to = end } = rw zero-add stretch_new in
      rw (add-one n)
      (each_snoc (stretch_at after) 0 n
      ∙ ap₂ (λ (l : List Stretch) (s : Stretch). l ++ (s ∷ []))
      (each_same (stretch_at after) (stretch_at rows) 0 n (λ k low high. stretch_kept k (omega arith))) last)

-- a root, stored in the row of index k

module _ (rows after : List ℕ) (k root : ℕ) (room : Has rows k) (put : after ≡ set rows (row_at k + 2) root) where
  root_new : root_at after k ≡ root
  root_new = rw put (get_or-set_same rows (row_at k + 2) root 0 (omega arith))

  root_kept : (j : ℕ) → k < j → root_at after j ≡ root_at rows j
  root_kept j h = rw put (get_or-set_other rows (row_at k + 2) (row_at j + 2) root 0 (λ e. omega arith))

  pub root_stored : (n : ℕ) → each (root_at after) k (suc n) ≡ root ∷ each (root_at rows) (suc k) n
  unfolding each
  root_stored n =
      ap₂ (λ (r : ℕ) (l : List ℕ). r ∷ l) root_new
      (each_same (root_at after) (root_at rows) (suc k) n (λ j low high. root_kept j (omega arith)))

  -- no stretch is stored in that word
  pub stretches_kept : (n : ℕ) → stretches_on after n ≡ stretches_on rows n
  stretches_kept n = each_same (stretch_at after) (stretch_at rows) 0 n (λ j low high. same j)
    where
      same : (j : ℕ) → stretch_at after j ≡ stretch_at rows j
      same j =
          let from : get_or after (row_at j) 0 ≡ get_or rows (row_at j) 0 =
          rw put (get_or-set_other rows (row_at k + 2) (row_at j) root 0 (λ e. omega arith)) in
          let to : get_or after (row_at j + 1) 0 ≡ get_or rows (row_at j + 1) 0 =
          rw put (get_or-set_other rows (row_at k + 2) (row_at j + 1) root 0 (λ e. omega arith)) in
          λ i. record { from = from i; to = to i }
