-- Where a "::" stands in a string.
use Prim.Native.Nat.{ℕ, zero, suc, ◌+◌, ◌-◌, ◌≤◌, ◌<◌}
use mathlib.Core.Path.{◌≡◌, refl, sym, ap, ◌∙◌}
use mathlib.Core.Bool.{Bool, true, false, not, cond, true≢false, and-false}
use mathlib.Core.List.{List, [], ◌∷◌}
use native.Mathlib.Omega.{arith}
use lib.ListN.{length, get_or, drop, drop_of_length-le}
use Rattle.std.proofs.lemmas.List.Folds.{length-prefix_len}
use Rattle.std.specs.List.{prefix_len, take_while, range_with_len}
use Rattle.paper.specs.Tokens.{is}
use Rattle.paper.specs.Addresses.{before_gap}
use Rattle.spelling.proofs.Spans.{cut}
use Rattle.addresses.specs.Reads.{gap_at}

-- the first "::"

gap_counted : (s : List ℕ) (n i : ℕ) → length s - i ≡ n → prefix_len (λ k. not (gap_at (drop k s))) (range_with_len i n) ≡ before_gap (drop i s)
gap_counted s zero i e =
    let past : length s ≤ i = omega arith in
    rw (drop_of_length-le s past) refl
gap_counted s (suc n) i e =
    let later : 1 + prefix_len (λ k. not (gap_at (drop k s))) (range_with_len (i + 1) n) ≡ suc (before_gap (drop (i + 1) s)) =
    omega (arith, gap_counted s n (i + 1) (omega arith)) in
    ap (λ k. cond (not (gap_at (drop i s))) k 0) later ∙ rw (cut s i (omega arith)) (go (gap_at (get_or s i 0 ∷ drop (i + 1) s)))
  where
    go : (t : Bool) → cond (not t) (suc (before_gap (drop (i + 1) s))) 0 ≡ cond t 0 (suc (before_gap (drop (i + 1) s)))
    go true = refl
    go false = refl

-- the bytes before it are those at which none stands
pub before_counted : (s : List ℕ) → length (take_while (λ k. not (gap_at (drop k s))) (range_with_len 0 (length s))) ≡ before_gap s
before_counted s = length-prefix_len (λ k. not (gap_at (drop k s))) (range_with_len 0 (length s)) ∙ gap_counted s (length s) 0 (omega arith)

-- a "::" has two bytes
pub gap_room : (s : List ℕ) → before_gap s < length s → before_gap s + 2 ≤ length s
gap_room [] l = absurd (omega arith)
gap_room (b ∷ s) l = go s (gap_at (b ∷ s)) refl l (gap_room s)
  where
    go : (s : List ℕ) (t : Bool) → gap_at (b ∷ s) ≡ t → before_gap (b ∷ s) < length (b ∷ s)
        → (before_gap s < length s → before_gap s + 2 ≤ length s) → before_gap (b ∷ s) + 2 ≤ length (b ∷ s)
    go [] true e l i = absurd (true≢false (sym e ∙ and-false (is ":" b)))
    go (a ∷ s) true e l i = rw e (omega arith)
    go s false e l i =
        let f : suc (before_gap s) < suc (length s) = rw e at l in
        let h = i (omega arith) in
        rw e (omega arith)

pub gap_inside : (s : List ℕ) → before_gap s ≤ length s
gap_inside [] = omega arith
gap_inside (b ∷ s) = go (gap_at (b ∷ s)) refl (gap_inside s)
  where
    go : (t : Bool) → gap_at (b ∷ s) ≡ t → before_gap s ≤ length s → before_gap (b ∷ s) ≤ length (b ∷ s)
    go true e i = rw e (omega arith)
    go false e i = rw e (omega arith)
