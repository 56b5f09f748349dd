-- Lines of a text, a byte or a line at a time.
use Prim.Native.Nat.{ℕ, zero, suc, ◌+◌, ◌-◌, ◌<◌}
use native.Mathlib.Nat.{zero-add}
use mathlib.Core.Path.{◌≡◌, refl, sym, ap, ◌∙◌}
use mathlib.Core.Bool.{Bool, true, false, cond, not}
use mathlib.Core.List.{List, [], ◌∷◌}
use native.Mathlib.Omega.{arith}
use lib.Dec.{eqb}
use lib.ListN.{length, get_or, take, drop, length-drop}
use lib.Seq.{drop-cons, drop-drop, get_or-drop}
use borrow.Author.Tests.{eqb-true, not-false}
use Rattle.paper.specs.Tokens.{span}
use Rattle.spelling.specs.Runs.{in_run, EndsAt}
use Rattle.spelling.specs.declared.runs.Run.TheVariants.{Line}
use Rattle.wording.specs.Lines.{breaks_at, breaks}

breaks_on : (s : List ℕ) (i : ℕ) → i < length s → breaks (drop i s) ≡ breaks_at (get_or s i 0) + breaks (drop (i + 1) s)
unfolding breaks
breaks_on s i h =
    let e : i + 1 ≡ suc i = omega arith in
    rw (e, drop-cons s i 0 h)

pub breaks_split : (n : ℕ) (s : List ℕ) → breaks (take n s) + breaks (drop n s) ≡ breaks s
unfolding breaks
breaks_split zero s = zero-add (breaks s)
breaks_split (suc n) [] = refl
breaks_split (suc n) (b ∷ s) = omega (arith, breaks_split n s)

-- a run that does not reach the end is closed by a byte that is not of its sort
span_stops : (p : ℕ → Bool) (s : List ℕ) → span p s < length s → p (get_or s (span p s) 0) ≡ false
span_stops p [] h = absurd (omega arith)
span_stops p (b ∷ s) h = go (span_stops p s) (p b) refl
  where
    go : (span p s < length s → p (get_or s (span p s) 0) ≡ false) → (t : Bool) → p b ≡ t
        → p (get_or (b ∷ s) (span p (b ∷ s)) 0) ≡ false
    go later true e =
        let f : suc (span p s) < suc (length s) = rw e at h in
        rw e (later (omega arith))
    go later false e = rw e e

-- a line's own bytes close no line
unbroken : (s : List ℕ) → breaks (drop (span (in_run Line) s) s) ≡ breaks s
unfolding breaks
unbroken [] = refl
unbroken (b ∷ s) = go (unbroken s) (eqb b 10) refl
  where
    go : breaks (drop (span (in_run Line) s) s) ≡ breaks s → (t : Bool) → eqb b 10 ≡ t
        → breaks (drop (span (in_run Line) (b ∷ s)) (b ∷ s)) ≡ breaks (b ∷ s)
    go later true e = rw e (ap (λ (t : Bool). cond t 1 0 + breaks s) e)
    go later false e = rw e (later ∙ sym (zero-add (breaks s)))

pub line_closed : (s : List ℕ) (from to : ℕ) → EndsAt s from (span (in_run Line) (drop from s)) to → to < length s
    → get_or s (to + 1 - 1) 0 ≡ 10
line_closed s from to e h =
    let n = span (in_run Line) (drop from s) in
    let f : n < length (drop from s) = omega (arith, length-drop from s, e.far) in
    let g : not (eqb (get_or s (from + n) 0) 10) ≡ false = rw get_or-drop at (span_stops (in_run Line) (drop from s) f) in
    let i : to + 1 - 1 ≡ from + n = omega (arith, e.far) in
    rw i (eqb-true (get_or s (from + n) 0) 10 (not-false _ g))

-- one line is closed where a line ends before the text does
pub line_counted : (s : List ℕ) (from to : ℕ) → EndsAt s from (span (in_run Line) (drop from s)) to → to < length s
    → breaks (drop from s) ≡ suc (breaks (drop (to + 1) s))
line_counted s from to e h =
    let n = span (in_run Line) (drop from s) in
    let i : to + 1 - 1 ≡ to = omega arith in
    let c : get_or s to 0 ≡ 10 = rw i at (line_closed s from to e h) in
    let f : to ≡ from + n = e.far in
    let b : breaks_at (get_or s to 0) ≡ 1 = rw c in
    let g : breaks (drop to s) ≡ suc (breaks (drop (to + 1) s)) = omega (arith, breaks_on s to h, b) in
    sym (unbroken (drop from s)) ∙ ap breaks (drop-drop n from s) ∙ ap (λ (k : ℕ). breaks (drop k s)) (sym f) ∙ g
