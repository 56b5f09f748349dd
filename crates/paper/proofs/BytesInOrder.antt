-- The pass copies each piece as it stands but an octal numeral, and goes on after it: so every other byte stands in its order.
use Prim.Native.Nat.{ℕ, zero, suc}
use mathlib.Core.Path.{◌≡◌, refl, subst}
use mathlib.Core.List.{List, [], ◌∷◌, ◌++◌}
use lib.ListN.{take, drop, take-append-drop}
use Rattle.paper.specs.Tokens.{Scan, blank, token, octal_numeral, no_token, too_large, taken, scan}
use Rattle.paper.specs.Fixing.{piece_for, fixed_from, fixed}
use Rattle.paper.specs.FixedRight.{StandsAs, at_end, a_byte, in_hex, InOrder}

copied : (p : List ℕ) {s t : List ℕ} → StandsAs s t → StandsAs (p ++ s) (p ++ t)
copied [] h = h
copied (b ∷ p) h = a_byte b (copied p h)

module _ (b : ℕ) (s : List ℕ) where
  -- a piece of n bytes more, and what stands after it
  piece : (n : ℕ) {t : List ℕ} → StandsAs (drop n s) t → StandsAs (b ∷ s) ((b ∷ take n s) ++ t)
  piece n {t} h = subst (λ r. StandsAs (b ∷ r) ((b ∷ take n s) ++ t)) (take-append-drop n s) (copied (b ∷ take n s) h)

  stands : (c : Scan) → scan b s ≡ c → {t : List ℕ} → StandsAs (drop (taken c) s) t → StandsAs (b ∷ s) (piece_for c b s ++ t)
  stands (blank n) e h = piece n h
  stands (token k n) e h = piece n h
  stands (octal_numeral v n) e h = in_hex b v n e h
  stands no_token e h = a_byte b h
  stands too_large e h = a_byte b h

from : (s : List ℕ) (n : ℕ) → StandsAs (drop n s) (fixed_from n s)
unfolding fixed_from
from [] zero = at_end
from [] (suc n) = at_end
from (b ∷ s) (suc n) = from s n
from (b ∷ s) zero = stands b s (scan b s) refl (from s (taken (scan b s)))

pub in_order : InOrder
unfolding fixed
in_order text = from text 0
