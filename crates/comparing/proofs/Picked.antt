-- What is picked, by the parts' indices: the first free part that comes last. It is then no more free, which leaves one part fewer, and what comes
-- before it is the code that is left.
use Prim.Native.Nat.{ℕ, zero, suc, ◌+◌, ◌-◌, ◌≤◌, ◌<◌}
use native.Mathlib.Nat.{sub-zero, eq-or-lt_of_le}
use native.Mathlib.Omega.{arith}
use mathlib.Core.Path.{◌≡◌, refl, ap, subst, ◌∙◌}
use mathlib.Core.Logic.{◌⊎◌, inl, inr}
use mathlib.Core.Bool.{Bool, true, false, cond, ◌&&◌, and-eq-true_iff}
use mathlib.Core.List.{List, [], ◌∷◌}
use lib.ListN.{length, take, drop, set, replicate, get_or-replicate, length-map}
use lib.Seq.{get_or-set_same, get_or-set_other}
use lib.Dec.{leb}
use borrow.Author.Tests.{leb-true}
use Rattle.paper.specs.Code.{Instruction, encode}
use Rattle.paper.specs.Comparing.{records_from, written, same_records, as_joined, nothing, picked, pick, fits}
use Rattle.parts.specs.Rows.{each}
use Rattle.parts.proofs.Stored.{each_length}
use Rattle.comparing.specs.Picking.{first_from, is_free, passing, ends_with, last_free, comes_last}
use Rattle.comparing.proofs.Rows.{blocks_length, blocks_take}

-- the first index that passes a test

module _ (test : ℕ → Bool) where
  pub first_low : (k n : ℕ) → k ≤ first_from test k n
  first_low k zero = omega arith
  first_low k (suc n) = go (test k) (first_low (suc k) n)
    where
      go : (b : Bool) → suc k ≤ first_from test (suc k) n → k ≤ cond b k (first_from test (suc k) n)
      go true h = omega arith
      go false h = omega arith

  pub first_high : (k n : ℕ) → first_from test k n ≤ k + n
  first_high k zero = omega arith
  first_high k (suc n) = go (test k) (first_high (suc k) n)
    where
      go : (b : Bool) → first_from test (suc k) n ≤ suc k + n → cond b k (first_from test (suc k) n) ≤ k + suc n
      go true h = omega arith
      go false h = omega arith

  pub first_passes : (k n : ℕ) → first_from test k n < k + n → test (first_from test k n) ≡ true
  first_passes k zero h = absurd (omega arith)
  first_passes k (suc n) h = go (test k) refl h (first_passes (suc k) n)
    where
      go : (b : Bool) → test k ≡ b → cond b k (first_from test (suc k) n) < k + suc n
          → (first_from test (suc k) n < suc k + n → test (first_from test (suc k) n) ≡ true) → test (cond b k (first_from test (suc k) n)) ≡ true
      go true e h later = e
      go false e h later = later (omega arith)

  -- a loop that goes up to it, k of n

  module _ (n : ℕ) where
    abbrev pub first_of : ℕ → ℕ
    first_of k = first_from test k (n - k)

    pub from_first : first_of 0 ≡ first_from test 0 n
    from_first = rw sub-zero

    pub stops : (k : ℕ) → k < n → test k ≡ true → first_of k ≡ k
    stops k h e =
        let left : n - k ≡ suc (n - (k + 1)) = omega arith in
        rw (left, e)

    pub goes_on : (k : ℕ) → k < n → test k ≡ false → first_of k ≡ first_of (k + 1)
    goes_on k h e =
        let left : n - k ≡ suc (n - (k + 1)) = omega arith in
        let next : k + 1 ≡ suc k = omega arith in
        rw (left, e, next)

    pub ends_at : (k : ℕ) → k ≡ n → first_of k ≡ n
    ends_at k e =
        let none : n - k ≡ 0 = omega arith in
        rw (none, e)

-- the codes that pass

passing_same : (test other : ℕ → Bool) (cs : ℕ → List Instruction) (k n : ℕ) → ((j : ℕ) → k ≤ j → other j ≡ test j)
    → passing other cs k n ≡ passing test cs k n
passing_same test other cs k zero same = refl
passing_same test other cs k (suc n) same =
    let rest = passing_same test other cs (suc k) n (λ j h. same j (omega arith)) in
    rw (same k (omega arith), rest)

pub passing_all : (test : ℕ → Bool) (cs : ℕ → List Instruction) (k n : ℕ) → ((j : ℕ) → j < k + n → test j ≡ true) → passing test cs k n ≡ each cs k n
unfolding each
passing_all test cs k zero all = refl
passing_all test cs k (suc n) all = rw (all k (omega arith), passing_all test cs (suc k) n (λ j h. all j (omega arith)))

-- one of them no more
pub record Without (test other : ℕ → Bool) (r : ℕ) : Type 0 where
  pub off : other r ≡ false
  pub others : (j : ℕ) → (j ≡ r → ⊥) → other j ≡ test j

module _ (test other : ℕ → Bool) (r : ℕ) (w : Without test other r) (cs : ℕ → List Instruction) where
  -- behind it all are the same
  same_behind : (n : ℕ) → passing other cs (suc r) n ≡ passing test cs (suc r) n
  same_behind n = passing_same test other cs (suc r) n (λ j h. w.others j (λ e. omega arith))

  pub one_fewer : (k n : ℕ) → k ≤ r → r < k + n → test r ≡ true → length (passing test cs k n) ≡ suc (length (passing other cs k n))
  one_fewer k zero low high e = absurd (omega arith)
  one_fewer k (suc n) low high e = go (eq-or-lt_of_le low) (λ less. one_fewer (suc k) n less (omega arith) e)
    where
      both : (b : Bool) → length (passing test cs (suc k) n) ≡ suc (length (passing other cs (suc k) n))
          → length (cond b (cs k ∷ passing test cs (suc k) n) (passing test cs (suc k) n))
          ≡ suc (length (cond b (cs k ∷ passing other cs (suc k) n) (passing other cs (suc k) n)))
      both true h = ap suc h
      both false h = h

      go : (k ≡ r) ⊎ (k < r) → (suc k ≤ r → length (passing test cs (suc k) n) ≡ suc (length (passing other cs (suc k) n)))
          → length (passing test cs k (suc n)) ≡ suc (length (passing other cs k (suc n)))
      go (inl same) later = rw (same, e, w.off, same_behind n)
      go (inr less) later = rw (w.others k (λ f. omega arith)) (both (test k) (later (omega arith)))

-- what is picked

module _ (free other : ℕ → Bool) (cs : ℕ → List Instruction) (s : List (List ℕ)) where
  abbrev last : ℕ → Bool
  last k = free k && ends_with (written (as_joined (cs k))) s

  -- the code before part r
  abbrev cut : ℕ → List (List ℕ)
  cut r = take (length s - length (written (as_joined (cs r)))) s

  pub none_picked : (k n : ℕ) → k + n ≤ first_from last k n → pick (passing free cs k n) s ≡ nothing
  none_picked k zero h = refl
  none_picked k (suc n) h = go (free k) refl (ends_with (written (as_joined (cs k))) s) refl h (none_picked (suc k) n)
    where
      go : (f : Bool) → free k ≡ f → (e : Bool) → ends_with (written (as_joined (cs k))) s ≡ e
          → k + suc n ≤ cond (free k && ends_with (written (as_joined (cs k))) s) k (first_from last (suc k) n)
          → (suc k + n ≤ first_from last (suc k) n → pick (passing free cs (suc k) n) s ≡ nothing)
          → pick (cond (free k) (cs k ∷ passing free cs (suc k) n) (passing free cs (suc k) n)) s ≡ nothing
      go true f true e h later = let at-it : k + suc n ≤ k = rw (f, e) at h in absurd (omega arith)
      go true f false e h later =
          let past : k + suc n ≤ first_from last (suc k) n = rw (f, e) at h in
          rw (f, e, later (omega arith))
      go false f e x h later =
          let past : k + suc n ≤ first_from last (suc k) n = rw f at h in
          rw (f, later (omega arith))

  module _ (r : ℕ) (w : Without free other r) where
    pub one_picked : (k n : ℕ) → first_from last k n ≡ r → r < k + n → pick (passing free cs k n) s ≡ picked (passing other cs k n) (cut r)
    one_picked k zero h high = absurd (omega arith)
    one_picked k (suc n) h high = go (free k) refl (ends_with (written (as_joined (cs k))) s) refl h (λ e. one_picked (suc k) n e (omega arith))
      where
        -- the search went past this part
        past : first_from last (suc k) n ≡ r → other k ≡ free k
        past e = w.others k (λ same. omega (arith, first_low last (suc k) n, e))

        go : (f : Bool) → free k ≡ f → (e : Bool) → ends_with (written (as_joined (cs k))) s ≡ e
            → cond (free k && ends_with (written (as_joined (cs k))) s) k (first_from last (suc k) n) ≡ r
            → (first_from last (suc k) n ≡ r → pick (passing free cs (suc k) n) s ≡ picked (passing other cs (suc k) n) (cut r))
            → pick (cond (free k) (cs k ∷ passing free cs (suc k) n) (passing free cs (suc k) n)) s
            ≡ picked (cond (other k) (cs k ∷ passing other cs (suc k) n) (passing other cs (suc k) n)) (cut r)
        go true f true e h later =
            let same : k ≡ r = rw (f, e) at h in
            rw (f, e, same, w.off, same_behind free other r w cs n)
        go true f false e h later =
            let on : first_from last (suc k) n ≡ r = rw (f, e) at h in
            rw (past on, f, e, later on)
        go false f e x h later =
            let on : first_from last (suc k) n ≡ r = rw f at h in
            rw (past on, f, later on)

-- the one that is left

no_more : {A : Type 0} (l : List A) → length l ≡ 0 → l ≡ []
no_more [] h = refl
no_more (x ∷ l) h = absurd (omega (arith, h))

pub record Sole (test : ℕ → Bool) (cs : ℕ → List Instruction) (k n : ℕ) : Type 0 where
  pub there : first_from test k n < k + n
  pub only : passing test cs k n ≡ cs (first_from test k n) ∷ []

pub one_left : (test : ℕ → Bool) (cs : ℕ → List Instruction) (k n : ℕ) → length (passing test cs k n) ≡ 1 → Sole test cs k n
one_left test cs k zero h = absurd (omega (arith, h))
one_left test cs k (suc n) h = go (test k) refl h (one_left test cs (suc k) n)
  where
    go : (b : Bool) → test k ≡ b → length (passing test cs k (suc n)) ≡ 1
        → (length (passing test cs (suc k) n) ≡ 1 → Sole test cs (suc k) n) → Sole test cs k (suc n)
    go true e h later =
        let none : passing test cs (suc k) n ≡ [] = no_more (passing test cs (suc k) n) (omega (arith, (rw e at h))) in
        record { there = rw e (omega arith); only = rw (e, none) }
    go false e h later =
        let s = later (rw e at h) in
        record { there = rw e (omega (arith, s.there)); only = rw e s.only }

-- which parts are used

module _ (used : List Bool) where
  pub all_free : (size : ℕ) → used ≡ replicate size false → (j : ℕ) → j < size → is_free used j ≡ true
  all_free size e j h = rw (e, get_or-replicate {A = Bool} size j false false h)

  pub used_now : (r : ℕ) → r < length used → Without (is_free used) (is_free (set used r true)) r
  used_now r h =
      record {
        off = rw (get_or-set_same used r true false h);
        others = λ j d. rw (get_or-set_other used r j true false d);
      }

-- a round of the search: so many parts are still to be taken off, and so much code is left
pub record Round (blocks : List ℕ) (total n : ℕ) (cs : ℕ → List Instruction) (used : List Bool) (left more : ℕ) : Type 0 where
  pub many : length (passing (is_free used) cs 0 n) ≡ suc more
  pub same : fits more (passing (is_free used) cs 0 n) (records_from blocks 0 left) ≡ fits (n - 1) (each cs 0 n) (records_from blocks 0 total)

pub first_round : (blocks : List ℕ) (total n size : ℕ) (cs : ℕ → List Instruction) (used : List Bool) → used ≡ replicate size false → 1 ≤ n → n ≤ size
    → Round blocks total n cs used total (n - 1)
first_round blocks total n size cs used e some few =
    let all = passing_all (is_free used) cs 0 n (λ j h. all_free used size e j (omega arith)) in
    record { many = ap length all ∙ each_length cs 0 n ∙ omega arith; same = rw all }

module _ {blocks : List ℕ} {total n : ℕ} {cs : ℕ → List Instruction} {used : List Bool} {left more : ℕ} (round : Round blocks total n cs used left more) where
  abbrev found : ℕ
  found = first_from (comes_last used cs (records_from blocks 0 left)) 0 n

  -- none comes last
  pub none_last : 0 < more → found ≡ n → false ≡ fits (n - 1) (each cs 0 n) (records_from blocks 0 total)
  unfolding fits
  none_last some e =
      let again : more ≡ suc (more - 1) = omega arith in
      let none = none_picked (is_free used) (is_free used) cs (records_from blocks 0 left) 0 n (omega (arith, e)) in
      (rw (again, none) at round.same)

  module _ (r : ℕ) (e : found ≡ r) (inside : r < n) (room : n ≤ length used) where
    abbrev size : ℕ
    size = length (as_joined (cs r))

    tested : last_free used r (cs r) (records_from blocks 0 left) ≡ true
    tested =
        subst (λ (k : ℕ). comes_last used cs (records_from blocks 0 left) k ≡ true) e
        (first_passes (comes_last used cs (records_from blocks 0 left)) 0 n (omega (arith, e)))

    is_free_lem : is_free used r ≡ true
    is_free_lem = ((and-eq-true_iff (is_free used r) (ends_with (written (as_joined (cs r))) (records_from blocks 0 left))).0 tested).0

    written_size : length (written (as_joined (cs r))) ≡ size
    written_size = length-map (as_joined (cs r)) encode

    pub fits_in : size ≤ left
    fits_in =
        let ends = ((and-eq-true_iff (is_free used r) (ends_with (written (as_joined (cs r))) (records_from blocks 0 left))).0 tested).1 in
        let long =
        ((and-eq-true_iff (leb (length (written (as_joined (cs r)))) (length (records_from blocks 0 left)))
        (same_records (drop (length (records_from blocks 0 left) - length (written (as_joined (cs r)))) (records_from blocks 0 left)) (written (as_joined (cs r))))).0 ends).0 in
        omega (
          arith,
          leb-true (length (written (as_joined (cs r)))) (length (records_from blocks 0 left)) long,
          written_size,
          blocks_length blocks 0 left,
        )

    -- the code before it
    cut_is : cut (is_free used) (is_free used) cs (records_from blocks 0 left) r ≡ records_from blocks 0 (left - size)
    cut_is =
        let there = fits_in in
        let all : left ≡ left - size + size = omega arith in
        let n : length (records_from blocks 0 left) - length (written (as_joined (cs r))) ≡ left - size =
        omega (arith, written_size, blocks_length blocks 0 left) in
        ap (λ (m : ℕ). take m (records_from blocks 0 left)) n
        ∙ ap (λ (m : ℕ). take (left - size) (records_from blocks 0 m)) all
        ∙ blocks_take blocks 0 (left - size) size

    taken_off : 0 < more → Round blocks total n cs (set used r true) (left - size) (more - 1)
    unfolding fits
    taken_off some =
        let again : more ≡ suc (more - 1) = omega arith in
        let w = used_now used r (omega arith) in
        let fewer = one_fewer (is_free used) (is_free (set used r true)) r w cs 0 n (omega arith) (omega arith) is_free_lem in
        let one = one_picked (is_free used) (is_free (set used r true)) cs (records_from blocks 0 left) r w 0 n e (omega arith) in
        record {
          many = omega (arith, fewer, round.many);
          same = rw (← cut_is) (rw (again, one) at round.same);
        }

    pub next_round : (m : ℕ) → m ≡ size → 0 < more → Round blocks total n cs (set used r true) (left - m) (more - 1)
    next_round m same some = rw same (taken_off some)

  -- the last round
  pub last_round : more ≡ 0 → first_from (is_free used) 0 n < n
  last_round e = omega (arith, (one_left (is_free used) cs 0 n (omega (arith, round.many))).there)

  pub all_left : more ≡ 0
      → same_records (written (cs (first_from (is_free used) 0 n))) (records_from blocks 0 left) ≡ fits (n - 1) (each cs 0 n) (records_from blocks 0 total)
  unfolding fits
  all_left e = rw (e, (one_left (is_free used) cs 0 n (omega (arith, round.many))).only) at round.same
