-- Runs of bytes: what `span` counts, of a list and from an offset on.
use Prim.Native.Nat.{ℕ, zero, suc, ◌+◌, ◌≤◌, ◌<◌}
use mathlib.Core.Path.{◌≡◌, refl, sym, ap, ◌∙◌}
use mathlib.Core.Bool.{Bool, true, false, not, cond, ◌&&◌, ◌||◌, and-true}
use mathlib.Core.List.{List, [], ◌∷◌}
use native.Mathlib.Omega.{arith}
use lib.Dec.{leb, leb-zero, leb-suc-zero, leb-suc-suc}
use lib.ListN.{length, get_or, take, drop}
use lib.Seq.{drop-cons, drop-drop}
use Rattle.std.proofs.lemmas.List.Folds.{length-prefix_len}
use Rattle.std.specs.List.{fold, prefix_len, take_while}
use Rattle.paper.specs.Tokens.{span}

pub cut : (s : List ℕ) (i : ℕ) → i < length s → drop i s ≡ get_or s i 0 ∷ drop (i + 1) s
cut s i h =
    let e : i + 1 ≡ suc i = omega arith in
    rw (e, drop-cons s i 0 h)

-- a run as a whole

module _ (p : ℕ → Bool) where
  prefix_is_span : (s : List ℕ) → prefix_len p s ≡ span p s
  prefix_is_span [] = refl
  prefix_is_span (b ∷ s) =
      let one : 1 + prefix_len p s ≡ suc (span p s) = omega (arith, prefix_is_span s) in
      ap (λ n. cond (p b) n 0) one

  -- a run is as long as the bytes that are taken while they are of it
  pub span_taken : (s : List ℕ) → length (take_while p s) ≡ span p s
  span_taken s = length-prefix_len p s ∙ prefix_is_span s

  pub span_within : (s : List ℕ) → span p s ≤ length s
  span_within [] = omega arith
  span_within (b ∷ s) = go (p b) (span_within s)
    where
      go : (t : Bool) → span p s ≤ length s → cond t (suc (span p s)) 0 ≤ suc (length s)
      go true h = omega arith
      go false h = omega arith

  -- no byte that ends a run is met in the first k exactly where it goes through them
  pub not_ended : (s : List ℕ) (k : ℕ) (ended : Bool) → k ≤ length s
      → not (fold (λ e b. e || p b) ended (take k s)) ≡ (not ended && leb k (span (λ b. not (p b)) s))
  not_ended s zero ended h = rw leb-zero (sym (and-true (not ended)))
  not_ended [] (suc k) ended h = absurd (omega arith)
  not_ended (b ∷ s) (suc k) ended h = not_ended s k (ended || p b) (omega arith) ∙ go ended (p b)
    where
      go : (e t : Bool) → (not (e || t) && leb k (span (λ b. not (p b)) s)) ≡ (not e && leb (suc k) (cond (not t) (suc (span (λ b. not (p b)) s)) 0))
      go true t = refl
      go false true = sym (leb-suc-zero k)
      go false false = sym (leb-suc-suc k (span (λ b. not (p b)) s))

  skipped : (s : List ℕ) (k : ℕ) → k ≤ span p s → span p s ≡ k + span p (drop k s)
  skipped s zero h = omega arith
  skipped [] (suc k) h = absurd (omega arith)
  skipped (b ∷ s) (suc k) h = go (p b) (skipped s k) h
    where
      go : (t : Bool) → (k ≤ span p s → span p s ≡ k + span p (drop k s)) → suc k ≤ cond t (suc (span p s)) 0 → cond t (suc (span p s)) 0 ≡ suc k + span p (drop k s)
      go true on g = omega (arith, on (omega arith))
      go false on g = absurd (omega arith)

  -- what it goes through can be passed over
  pub span_skip : (s : List ℕ) (at k : ℕ) → k ≤ span p (drop at s) → span p (drop at s) ≡ k + span p (drop (at + k) s)
  span_skip s at k h = skipped (drop at s) k h ∙ ap (λ l. k + span p l) (drop-drop k at s)
