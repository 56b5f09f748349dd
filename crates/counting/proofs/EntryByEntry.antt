-- Entries counted one after the other are counted together.
use Prim.Native.Nat.{ℕ, zero, suc, ◌+◌, ◌≤◌, ◌<◌}
use native.Mathlib.Nat.{add-zero, zero-add}
use native.Mathlib.Omega.{arith}
use mathlib.Core.Path.{◌≡◌, refl, sym, ap, ◌∙◌}
use mathlib.Core.Bool.{Bool, true, false, cond}
use mathlib.Core.List.{List, [], ◌∷◌, ◌++◌, map}
use lib.ListN.{length, get_or, length-map}
use Rattle.paper.specs.Keys.{Key}
use Rattle.paper.specs.Grammar.{Tree}
use Rattle.paper.specs.Parts.{Part}
use Rattle.paper.specs.Counting.{entries_in, count_if, is_accepted, is_violated, is_refused, judged, false_of, counts_of}
use Rattle.paper.specs.CountedRight.{one}
use Rattle.parts.specs.Rows.{each}
use Rattle.parts.proofs.Stored.{each_length}
use Rattle.counting.specs.declared.total.Totals.{Totals}
use Rattle.counting.specs.Tallied.{Spare, Tells, Adds}
use Rattle.counting.proofs.Growing.{grew_zero, grew_by, grew_twice, grew_raised}

-- of one entry; and of two lists of them

module _ {A : Type 0} (test : A → Bool) where
  pub count_one : (x : A) {b : Bool} → test x ≡ b → count_if test (x ∷ []) ≡ one b
  count_one x {b} e = ap (λ (c : Bool). cond c 1 0) e ∙ go b
    where
      go : (b : Bool) → cond b 1 0 ≡ one b
      go true = refl
      go false = refl

  pub count_append : (xs ys : List A) → count_if test (xs ++ ys) ≡ count_if test xs + count_if test ys
  count_append [] ys = omega arith
  count_append (x ∷ xs) ys = go (test x) (count_if test xs) (count_if test ys) (count_append xs ys)
    where
      go : (b : Bool) {m : ℕ} (n k : ℕ) → m ≡ n + k → cond b (suc m) m ≡ cond b (suc n) n + k
      go true n k e = omega (arith, e)
      go false n k e = e

  pub count_most : (xs : List A) → count_if test xs ≤ length xs
  count_most [] = omega arith
  count_most (x ∷ xs) = go (test x) (count_most xs)
    where
      go : (b : Bool) {m n : ℕ} → m ≤ n → cond b (suc m) m ≤ suc n
      go true h = omega (arith, h)
      go false h = omega (arith, h)

module _ (ks : List Key) (t : Tree) (n : ℕ) (part : ℕ → Part) where
  pub adds_none : (numbers : List ℕ) (r : Totals) → (r.accepted ≡ 0) × (r.violated ≡ 0) × (r.refused ≡ 0) → Adds ks t n part [] numbers numbers r
  adds_none numbers r zeros =
      record {
        numbers = grew_zero n numbers;
        accepted = zeros.0;
        violated = zeros.1;
        refused = zeros.2;
      }

  pub adds_more : {es fs : List (List ℕ)} {before mid after : List ℕ} {r s sum : Totals} → Adds ks t n part es before mid r → Adds ks t n part fs mid after s
      → (sum.accepted ≡ r.accepted + s.accepted) × (sum.violated ≡ r.violated + s.violated) × (sum.refused ≡ r.refused + s.refused)
      → Adds ks t n part (es ++ fs) before after sum
  adds_more {es} {fs} a b added =
      record {
        numbers = grew_by (grew_twice a.numbers b.numbers) (λ k h. sym (count_append (λ e. is_violated (judged ks (part k).root e)) es fs));
        accepted = omega (arith, added.0, a.accepted, b.accepted, count_append (λ e. is_accepted (judged ks t e)) es fs);
        violated = omega (arith, added.1, a.violated, b.violated, count_append (λ e. is_violated (judged ks t e)) es fs);
        refused = omega (arith, added.2, a.refused, b.refused, count_append (λ e. is_refused (judged ks t e)) es fs);
      }

  -- no more than there are
  pub adds_few : {es : List (List ℕ)} {before after : List ℕ} {r : Totals} → Adds ks t n part es before after r
      → (r.accepted ≤ length es) × (r.violated ≤ length es) × (r.refused ≤ length es)
  adds_few {es} a = (
    omega (arith, a.accepted, count_most (λ e. is_accepted (judged ks t e)) es),
    omega (arith, a.violated, count_most (λ e. is_violated (judged ks t e)) es),
    omega (arith, a.refused, count_most (λ e. is_refused (judged ks t e)) es),
  )

  -- where there was room for more entries, there is for another
  pub adds_spare : {es : List (List ℕ)} {before after : List ℕ} {r : Totals} {whole : ℕ} → Adds ks t n part es before after r → Spare n whole before
      → length es < whole → Spare n 1 after
  adds_spare {es} {whole = whole} a spare more =
      record {
        there = omega (arith, spare.there, a.numbers.many);
        below = λ k h.
            omega (arith, spare.below k h, a.numbers.grown k h, count_most (λ e. is_violated (judged ks (part k).root e)) es);
      }

  mapped_at : (f : Part → ℕ) (k m j : ℕ) → j < m → get_or (map f (each part k m)) j 0 ≡ f (part (k + j))
  unfolding each
  mapped_at f k zero j h = absurd (omega arith)
  mapped_at f k (suc m) zero h = rw (add-zero k)
  mapped_at f k (suc m) (suc j) h =
      let e : suc k + j ≡ k + suc j = omega arith in
      mapped_at f (suc k) m j (omega arith) ∙ ap (λ (i : ℕ). f (part i)) e

  pub adds_tells : (s before after : List ℕ) (r : Totals) → n ≤ length before → Adds ks t n part (entries_in ks s) before after r
      → Tells (counts_of ks t (each part 0 n) s) before after r
  unfolding counts_of
  adds_tells s before after r there a =
      let counts = false_of ks (entries_in ks s) in
      record {
        numbers = grew_raised a.numbers (map counts (each part 0 n)) (length-map (each part 0 n) counts ∙ each_length part 0 n) (λ k h. mapped_at counts 0 n k h ∙ ap (λ (j : ℕ). counts (part j)) (zero-add k)) there;
        accepted = a.accepted;
        violated = a.violated;
        refused = a.refused;
      }
