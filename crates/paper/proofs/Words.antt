-- Words as byte lists: the test for equal bytes is equality.
use Prim.Native.Nat.{ℕ}
use mathlib.Core.Path.{◌≡◌, refl, sym, ◌∙◌}
use mathlib.Core.Logic.{◌≢◌}
use mathlib.Core.Bool.{Bool, true, false, cond, true≢false}
use mathlib.Core.List.{List, [], ◌∷◌}
use lib.Dec.{eqb}
use borrow.Author.Tests.{eqb-true, eq-eqb}
use Rattle.paper.specs.Tokens.{same_bytes}

pub same_bytes_lem : (v w : List ℕ) → same_bytes v w ≡ true → v ≡ w
same_bytes_lem [] [] h = refl
same_bytes_lem [] (b ∷ w) h = absurd (true≢false (sym h))
same_bytes_lem (a ∷ v) [] h = absurd (true≢false (sym h))
same_bytes_lem (a ∷ v) (b ∷ w) h = go (eqb a b) refl h (same_bytes_lem v w)
  where
    go : (t : Bool) → eqb a b ≡ t → cond t (same_bytes v w) false ≡ true → (same_bytes v w ≡ true → v ≡ w) → a ∷ v ≡ b ∷ w
    go true e h rest = rw (eqb-true a b e, rest h)
    go false e h rest = absurd (true≢false (sym h))

pub bytes_same : (w : List ℕ) → same_bytes w w ≡ true
bytes_same [] = refl
bytes_same (b ∷ w) = rw (eq-eqb b b refl) (bytes_same w)

pub not_bytes : (v w : List ℕ) → same_bytes v w ≡ false → v ≢ w
not_bytes v w h e = true≢false (sym (bytes_same w) ∙ (rw e at h))

pub bytes_not : (v w : List ℕ) → v ≢ w → same_bytes v w ≡ false
bytes_not v w h = go (same_bytes v w) refl
  where
    go : (t : Bool) → same_bytes v w ≡ t → t ≡ false
    go true e = absurd (h (same_bytes_lem v w e))
    go false e = refl
