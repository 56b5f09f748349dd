-- Numbers that grow: one more of them, twice in turn, and all of them as a list.
use Prim.Native.Nat.{ℕ, zero, suc, ◌+◌, ◌-◌, ◌^◌, ◌≤◌, ◌<◌}
use native.Mathlib.Nat.{add-zero, eq-or-lt_of_le}
use native.Mathlib.Omega.{arith}
use mathlib.Core.Path.{◌≡◌, refl, sym, ap, ap₂, ◌∙◌}
use mathlib.Core.Logic.{◌⊎◌, inl, inr}
use mathlib.Core.List.{List, [], ◌∷◌, ◌++◌}
use lib.ListN.{length, get_or, set, take, drop, replicate, length-set, length-drop, length-replicate, replicate-append-replicate, get_or-replicate, length-append, get_or-append, take-append-drop}
use lib.Seq.{length-take-le, drop-append_seam, get_or-set_same, get_or-set_other, get_or-take, get_or-drop, ext_get_or}
use Rattle.paper.specs.Calls.{over}
use Rattle.paper.specs.CountedRight.{sums}
use Rattle.paper.proofs.Overwritten.{over_next}
use Rattle.counting.specs.Tallied.{raised, Spare, Grew}

pub grew_none : (by : ℕ → ℕ) (ns : List ℕ) → Grew 0 by ns ns
grew_none by ns = record { many = refl; grown = λ k h. absurd (omega arith); stays = λ k h. refl }

pub grew_zero : (n : ℕ) (ns : List ℕ) → Grew n (λ k. 0) ns ns
grew_zero n ns = record { many = refl; grown = λ k h. omega arith; stays = λ k h. refl }

-- the next number too: it is stored, or grows by nothing

module _ {k : ℕ} {by : ℕ → ℕ} {before now : List ℕ} (g : Grew k by before now) where
  module _ (after : List ℕ) (many : length after ≡ length now) (here : get_or after k 0 ≡ get_or now k 0 + by k)
      (others : (j : ℕ) → (j ≡ k → ⊥) → get_or after j 0 ≡ get_or now j 0)
    where
      grew_next : Grew (k + 1) by before after
      grew_next =
          record {
            many = many ∙ g.many;
            grown = λ j h. go j (eq-or-lt_of_le (omega arith));
            stays = λ j h. others j (λ e. omega arith) ∙ g.stays j (omega arith);
          }
        where
          go : (j : ℕ) → (j ≡ k) ⊎ (j < k) → get_or after j 0 ≡ get_or before j 0 + by j
          go j (inl e) = rw e (omega (arith, here, g.stays k (omega arith)))
          go j (inr h) = others j (λ e. omega arith) ∙ g.grown j h

  pub grew_stored : k < length now → by k ≡ 1 → Grew (k + 1) by before (set now k (get_or now k 0 + 1))
  grew_stored inside one =
      let more = get_or now k 0 + 1 in
      grew_next (set now k more) (length-set now k more) (get_or-set_same now k more 0 inside ∙ omega (arith, one)) (λ j other. get_or-set_other now k j more 0 other)

  pub grew_nothing : by k ≡ 0 → Grew (k + 1) by before now
  grew_nothing none = grew_next now refl (omega (arith, none)) (λ j other. refl)

-- it grows by other names for the same numbers
pub grew_by : {n : ℕ} {by same : ℕ → ℕ} {before after : List ℕ} → Grew n by before after → ((k : ℕ) → k < n → by k ≡ same k) → Grew n same before after
grew_by {before = before} g alike =
    record {
      many = g.many;
      grown = λ k h. g.grown k h ∙ ap (λ (m : ℕ). get_or before k 0 + m) (alike k h);
      stays = g.stays;
    }

pub grew_twice : {n : ℕ} {by more : ℕ → ℕ} {before mid after : List ℕ} → Grew n by before mid → Grew n more mid after
    → Grew n (λ k. by k + more k) before after
grew_twice g h =
    record {
      many = h.many ∙ g.many;
      grown = λ k below. omega (arith, g.grown k below, h.grown k below);
      stays = λ k above. h.stays k above ∙ g.stays k above;
    }

-- as a list

sums_length : (ms ns : List ℕ) → length ms ≤ length ns → length (sums ms ns) ≡ length ms
sums_length [] ns h = refl
sums_length (m ∷ ms) [] h = absurd (omega arith)
sums_length (m ∷ ms) (n ∷ ns) h = ap suc (sums_length ms ns (omega arith))

sums_at : (ms ns : List ℕ) → length ms ≤ length ns → (k : ℕ) → k < length ms → get_or (sums ms ns) k 0 ≡ get_or ns k 0 + get_or ms k 0
sums_at [] ns h k below = absurd (omega arith)
sums_at (m ∷ ms) [] h k below = absurd (omega arith)
sums_at (m ∷ ms) (n ∷ ns) h zero below = omega arith
sums_at (m ∷ ms) (n ∷ ns) h (suc k) below = sums_at ms ns (omega arith) k (omega arith)

module _ (ms ns : List ℕ) (room : length ms ≤ length ns) where
  pub raised_length : length (raised ms ns) ≡ length ns
  raised_length =
      let rest = drop (length (sums ms ns)) ns in
      omega (arith, length-append (sums ms ns) rest, length-drop (length (sums ms ns)) ns, sums_length ms ns room, room)

  pub raised_at : (k : ℕ) → k < length ms → get_or (raised ms ns) k 0 ≡ get_or ns k 0 + get_or ms k 0
  raised_at k below =
      get_or-append (sums ms ns) (drop (length (sums ms ns)) ns) 0 k (omega (arith, sums_length ms ns room, below)) ∙ sums_at ms ns room k below

module _ {n : ℕ} {by : ℕ → ℕ} {before after : List ℕ} (g : Grew n by before after) (ms : List ℕ) (are : length ms ≡ n)
    (each : (k : ℕ) → k < n → get_or ms k 0 ≡ by k) (there : n ≤ length before)
  where
    size : length (sums ms before) ≡ n
    size = sums_length ms before (omega (arith, are, there)) ∙ are

    front : take n after ≡ sums ms before
    front =
        let long : length (take n after) ≡ n = length-take-le n after (omega (arith, g.many, there)) in
        ext_get_or 0 (take n after) (sums ms before) (long ∙ sym size)
        (λ k h.
        let below : k < n = omega (arith, long) in
        get_or-take n after k 0 below
        ∙ g.grown k below
        ∙ ap (λ (m : ℕ). get_or before k 0 + m) (sym (each k below))
        ∙ sym (sums_at ms before (omega (arith, are, there)) k (omega (arith, are))))

    back : drop n after ≡ drop n before
    back =
        ext_get_or 0 (drop n after) (drop n before) (length-drop n after ∙ ap (λ (m : ℕ). m - n) g.many ∙ sym (length-drop n before))
        (λ k h. get_or-drop n after k 0 ∙ g.stays (n + k) (omega arith) ∙ sym (get_or-drop n before k 0))

    pub grew_raised : after ≡ raised ms before
    grew_raised =
        sym (take-append-drop n after)
        ∙ ap₂ (λ (x : List ℕ) (y : List ℕ). x ++ y) front (back ∙ ap (λ (m : ℕ). drop m before) (sym size))

-- from zeros on

sums_zeros : (ms rest : List ℕ) → sums ms (replicate (length ms) 0 ++ rest) ≡ ms
sums_zeros [] rest = refl
sums_zeros (m ∷ ms) rest = ap₂ (λ (x : ℕ) (l : List ℕ). x ∷ l) (add-zero m) (sums_zeros ms rest)

pub from_zeros : (ms numbers : List ℕ) (n : ℕ) → length ms ≡ n → raised ms (over (replicate n 0) numbers) ≡ over ms numbers
from_zeros ms numbers n are =
    let zeros : List ℕ = replicate n 0 in
    let rest = drop (length zeros) numbers in
    let long : length zeros ≡ length ms = length-replicate n 0 ∙ sym are in
    let sum : sums ms (zeros ++ rest) ≡ ms = ap (λ (k : ℕ). sums ms (replicate k 0 ++ rest)) (sym are) ∙ sums_zeros ms rest in
    ap₂ (λ (x : List ℕ) (y : List ℕ). x ++ y) sum
    (ap (λ (l : List ℕ). drop (length l) (zeros ++ rest)) sum
    ∙ ap (λ (k : ℕ). drop k (zeros ++ rest)) (sym long)
    ∙ drop-append_seam zeros rest
    ∙ ap (λ (k : ℕ). drop k numbers) long)

pub zeros_spare : (numbers : List ℕ) (n more : ℕ) → more < 2 ^ 64 → Spare n more (over (replicate n 0) numbers)
zeros_spare numbers n more few =
    let zeros : List ℕ = replicate n 0 in
    let long = length-replicate {A = ℕ} n 0 in
    record {
      there = omega (arith, long, length-append zeros (drop (length zeros) numbers));
      below =
          λ k h.
          let none : get_or (over zeros numbers) k 0 ≡ 0 =
          get_or-append zeros (drop (length zeros) numbers) 0 k (omega (arith, long)) ∙ get_or-replicate n k 0 0 h in
          omega (arith, none, few);
    }

-- one more of them
pub zeros_next : (numbers : List ℕ) (k : ℕ) → k < length numbers → set (over (replicate k 0) numbers) k 0 ≡ over (replicate (k + 1) 0) numbers
zeros_next numbers k inside =
    let long = length-replicate {A = ℕ} k 0 in
    ap (λ (m : ℕ). set (over (replicate k 0) numbers) m 0) (sym long)
    ∙ over_next (replicate k 0) numbers 0 (omega (arith, long, inside))
    ∙ ap (λ (l : List ℕ). over l numbers) (replicate-append-replicate k 1 0)
