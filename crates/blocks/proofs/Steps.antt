-- The way along a slice: what is left of it without its next two bytes, and without a part of it.
use Prim.Native.Nat.{ℕ, suc, ◌+◌, ◌*◌, ◌-◌, ◌≤◌, ◌<◌}
use native.Mathlib.Numerals.{add-one}
use native.Mathlib.Omega.{arith}
use mathlib.Core.Path.{◌≡◌, refl, sym, ◌∙◌, ap, ap₂}
use mathlib.Core.List.{List, ◌∷◌, ◌++◌}
use lib.ListN.{length, get_or, drop, length-drop, length-append}
use lib.Seq.{drop-cons, drop-drop}
use Rattle.std.proofs.lemmas.List.{drop_at, get_or_append_left, get_or-drop}
use Rattle.blocks.specs.Sealed.{TurnedWord}

-- the two next elements of a slice
pub two_off : (s : List ℕ) (i : ℕ) → 2 ≤ length s - i → drop i s ≡ get_or s i 0 ∷ get_or s (i + 1) 0 ∷ drop (i + 2) s
two_off s i h =
    let e : suc (i + 1) ≡ i + 2 = omega arith in
    drop-cons s i 0 (omega arith)
    ∙ ap (λ (n : ℕ). get_or s i 0 ∷ drop n s) (sym (add-one i))
    ∙ ap (λ (l : List ℕ). get_or s i 0 ∷ l) (drop-cons s (i + 1) 0 (omega arith) ∙ ap (λ (n : ℕ). get_or s (i + 1) 0 ∷ drop n s) e)

-- a part that is taken off what is left of a slice: what is left after it, and the words in it
module _ (s rest part after : List ℕ) (left : rest ≡ drop (length s - length rest) s) (off : rest ≡ part ++ after) where
  pub passed : length s - length after ≡ length s - length rest + length part
  passed = omega (arith, length-drop (length s - length rest) s, ap length left, ap length off, length-append part after)

  pub left_on : after ≡ drop (length s - length after) s
  left_on =
      let i = length s - length rest in
      sym (drop_at part after (length part) refl) ∙ ap (drop (length part)) (sym off ∙ left) ∙ drop-drop (length part) i s
      ∙ ap (λ (n : ℕ). drop n s) (sym passed)

  pub room_for : length part ≤ length s - (length s - length rest)
  room_for = omega (arith, length-drop (length s - length rest) s, ap length left, ap length off, length-append part after)

  pub word_in : (j i w : ℕ) → i ≡ length s - length rest + j → j + 2 ≤ length part → TurnedWord part j w → TurnedWord s i w
  word_in j i w there room (e, small) =
      let from = length s - length rest in
      let at : (k : ℕ) → k < length part → get_or part k 0 ≡ get_or s (from + k) 0 =
      λ k h. sym (get_or_append_left part after 0 k h) ∙ ap (λ (l : List ℕ). get_or l k 0) (sym off ∙ left) ∙ get_or-drop from s k 0
      in
      let low : from + j ≡ i = omega arith in
      let high : from + (j + 1) ≡ i + 1 = omega arith in (
        e
            ∙ ap₂ (λ (x y : ℕ). x + y * 256)
            (at j (omega arith) ∙ ap (λ (k : ℕ). get_or s k 0) low) (at (j + 1) (omega arith) ∙ ap (λ (k : ℕ). get_or s k 0) high),
        small,
      )
