-- A text that is cut into tokens by the rules that hold stays as it is: none of what stands in it is an octal numeral, so each piece is copied.
use Prim.Native.Nat.{ℕ, zero, suc}
use mathlib.Core.Path.{◌≡◌, refl, ap, subst, ◌∙◌}
use mathlib.Core.List.{List, [], ◌∷◌, ◌++◌}
use lib.ListN.{take, drop, take-append-drop}
use Rattle.paper.specs.Answers.{Answer}
use Rattle.paper.specs.Tokens.{Token, Scan, blank, token, octal_numeral, no_token, too_large, taken, scan, onward, tokens_by, tokens_from, tokens, most_tokens}
use Rattle.paper.specs.Fixing.{piece_for, fixed_from, fixed}
use Rattle.paper.specs.FixedRight.{OthersStay}
use Rattle.paper.proofs.Stages.{Of, of_so, of_bind}

-- the text from a byte on, of which n bytes are taken, stays as it is, where an answer says that the rest is cut
abbrev Stays : ℕ → List ℕ → Answer (List Token) → Type 0
Stays n s a = Of (λ ts. fixed_from n s ≡ drop n s) a

module _ (b : ℕ) (s : List ℕ) where
  copied : (n : ℕ) → fixed_from n s ≡ drop n s → (b ∷ take n s) ++ fixed_from n s ≡ b ∷ s
  copied n h = ap (λ r. b ∷ (take n s ++ r)) h ∙ ap (λ r. b ∷ r) (take-append-drop n s)

  piece_stays : (c : Scan) (at room : ℕ) (go : ℕ → ℕ → Answer (List Token)) → ((n left : ℕ) → Stays n s (go n left))
      → Of (λ ts. piece_for c b s ++ fixed_from (taken c) s ≡ b ∷ s) (onward c at room go)
  piece_stays (blank n) at room go h = of_so _ _ (go n room) (h n room) (λ ts k. copied n k)
  piece_stays (token t n) at zero go h = tt
  piece_stays (token t n) at (suc room) go h = of_bind _ _ (go n room) _ (h n room) (λ ts k. copied n k)
  piece_stays (octal_numeral v n) at zero go h = tt
  piece_stays (octal_numeral v n) at (suc room) go h = tt
  piece_stays no_token at room go h = tt
  piece_stays too_large at room go h = tt

from_stays : (s : List ℕ) (n at room : ℕ) → Stays n s (tokens_from n at room s)
unfolding fixed_from tokens_by
from_stays [] zero at room = refl
from_stays [] (suc n) at room = refl
from_stays (b ∷ s) (suc n) at room = from_stays s n (suc at) room
from_stays (b ∷ s) zero at room =
    piece_stays b s (scan b s) at room (λ n left. tokens_from n (suc at) left s) (λ n left. from_stays s n (suc at) left)

pub others_stay : OthersStay
unfolding fixed tokens
others_stay text ts e = subst (Stays 0 text) e (from_stays text 0 0 most_tokens)
