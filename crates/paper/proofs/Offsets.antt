-- The offsets of tokens rise and lie in the text; so the places of nodes and of refusals lie in it too.
use Prim.Native.Nat.{ℕ, zero, suc, ◌+◌, ◌≤◌, ◌<◌}
use mathlib.Core.Path.{◌≡◌, refl, subst}
use mathlib.Core.List.Memᴰ
use mathlib.Core.List.{List, [], ◌∷◌, ◌++◌, Memᴰ}
use lib.ListN.{length}
use native.Mathlib.Omega.{arith}
use Rattle.paper.specs.Answers.{Answer, ok, refused, ◌>>=◌}
use Rattle.paper.specs.Tokens.{Token, Scan, blank, token, octal_numeral, no_token, too_large, scan, onward, tokens_by, tokens_from, most_tokens, tokens}
use Rattle.paper.specs.Sentences.{place_from}
use Rattle.paper.specs.Places.{Rising, OffsetsRise, OffsetsInText, PlacesInText, RefusalsInText}
use Rattle.paper.proofs.Refusals.{parsed_is_right}
use Rattle.paper.proofs.Nodes.{places_as_offsets}

-- of the tokens, where there are any
abbrev Of : (List Token → Type 0) → Answer (List Token) → Type 0
Of P (ok ts) = P ts
Of P (refused n i at) = Unit {0}

pub sooner : (from later below : ℕ) (ts : List Token) → from ≤ later → Rising later below ts → Rising from below ts
sooner from later below [] l h = tt
sooner from later below (u ∷ us) l h = (omega (arith, h.0), h.1, h.2)

sooner_of : (from later below : ℕ) (a : Answer (List Token)) → from ≤ later
    → Of (Rising later below) a → Of (Rising from below) a
sooner_of from later below (ok ts) l h = sooner from later below ts l h
sooner_of from later below (refused n i at) l h = tt

with_first : (u : Token) (below : ℕ) (a : Answer (List Token)) → u.at < below → Of (Rising (suc u.at) below) a
    → Of (Rising u.at below) (a >>= λ us. ok (u ∷ us))
with_first u below (ok us) l h = (omega arith, l, h)
with_first u below (refused n i at) l h = tt

onward_rises : (c : Scan) (at room below : ℕ) (go : ℕ → ℕ → Answer (List Token)) → at < below
    → ((n left : ℕ) → Of (Rising (suc at) below) (go n left)) → Of (Rising at below) (onward c at room go)
onward_rises (blank n) at room below go l h = sooner_of at (suc at) below (go n room) (omega arith) (h n room)
onward_rises (token t n) at zero below go l h = tt
onward_rises (token t n) at (suc room) below go l h = with_first (record { at = at; tok = t }) below (go n room) l (h n room)
onward_rises (octal_numeral v n) at zero below go l h = tt
onward_rises (octal_numeral v n) at (suc room) below go l h = tt
onward_rises no_token at room below go l h = tt
onward_rises too_large at room below go l h = tt

from_rises : (s : List ℕ) (n at room below : ℕ) → at + length s ≤ below → Of (Rising at below) (tokens_from n at room s)
unfolding tokens_by
from_rises [] n at room below l = tt
from_rises (b ∷ s) (suc n) at room below l =
    sooner_of at (suc at) below (tokens_from n (suc at) room s) (omega arith) (from_rises s n (suc at) room below (omega arith))
from_rises (b ∷ s) zero at room below l =
    onward_rises (scan b s) at room below (λ n left. tokens_from n (suc at) left s) (omega arith)
    (λ n left. from_rises s n (suc at) left below (omega arith))

pub offsets_rise : OffsetsRise
unfolding tokens
offsets_rise text ts h =
    subst (λ (a : Answer (List Token)). Of (Rising 0 (length text)) a) h
    (from_rises text 0 0 most_tokens (length text) (omega arith))

rising_below : (from below : ℕ) (u : Token) (ts : List Token) → Rising from below ts → Memᴰ u ts → u.at < below
rising_below from below u [] h m = elim m [ ]
rising_below from below u (v ∷ ts) h (Memᴰ.head e) = rw e h.1
rising_below from below u (v ∷ ts) h (Memᴰ.tail m) = rising_below (suc v.at) below u ts h.2 m

pub offsets_in_text : OffsetsInText
offsets_in_text text ts h at (u, m, e) = rw (← e) (rising_below 0 (length text) u ts (offsets_rise text ts h) m)

pub places_in_text : PlacesInText
places_in_text text ts t h p =
    places_as_offsets (λ at. at < length text) (length text) ts t p (λ u m. offsets_in_text text ts h u.at (u, m, refl))

pub place_in_text : (text : List ℕ) (ts taken us : List Token) → tokens text ≡ ok ts → ts ≡ taken ++ us
    → place_from (length text) us ≤ length text
place_in_text text ts taken [] h e = omega arith
place_in_text text ts taken (u ∷ us) h e =
    let l = offsets_in_text text ts h u.at (u, rw e (Memᴰ.append_right taken (Memᴰ.head refl)), refl) in
    omega arith

pub refusals_in_text : RefusalsInText
refusals_in_text text ts n i at h p =
    let (us, s, i-is, at-is) = (parsed_is_right (length text) ts (refused n i at)).0 p in
    rw at-is (place_in_text text ts s.taken us h s.split)
