-- A tree has no more nodes than its text has tokens, and the places of its nodes are offsets of tokens.
use Prim.Native.Nat.{ℕ, ◌+◌, ◌≤◌}
use mathlib.Core.Path.{◌≡◌, refl}
use mathlib.Core.List.Memᴰ
use mathlib.Core.List.{List, [], ◌∷◌, ◌++◌, Memᴰ}
use lib.ListN.{length, length-append}
use native.Mathlib.Omega.{arith}
use Rattle.paper.specs.Answers.{ok}
use Rattle.paper.specs.Tokens.{join, comparison, closing, Token}
use Rattle.paper.specs.Grammar.{Tree, joined, compared, nodes, parsed}
use Rattle.paper.specs.Sentences.{sign_at, Valid}
use Rattle.paper.specs.Places.{Everywhere, OffsetIn, NodesWithinTokens, PlacesAreOffsets}
use Rattle.paper.proofs.Refusals.{read_is_valid}
use Rattle.paper.proofs.Phrases.{HandedOn, valid_has}

-- of the offsets of all tokens
abbrev pub Offsets : (ℕ → Type 0) → List Token → Type 0
Offsets P ts = (u : Token) → Memᴰ u ts → P u.at

module _ (P : ℕ → Type 0) where
  -- a phrase has no more nodes than tokens, and P of its places where P of their offsets
  record Fit (t : Tree) (ts : List Token) : Type 0 where
    few : nodes t ≤ length ts
    placed : Offsets P ts → Everywhere P t

  atom_fit : {t : Tree} {u : Token} {us : List Token} → nodes t ≡ 1 → (P u.at → Everywhere P t) → Fit t (u ∷ us)
  atom_fit {u = u} one place = record { few = omega arith; placed = λ p. place (p u (Memᴰ.head refl)) }

  -- what an operator makes has one node more, and its place
  two_fit : (t l r : Tree) (ls rs : List Token) (u : Token) → nodes t ≡ nodes l + nodes r + 1
      → (P u.at → Everywhere P l → Everywhere P r → Everywhere P t) → Fit l ls → Fit r rs → Fit t (ls ++ (u ∷ rs))
  two_fit t l r ls rs u one place h g =
      record {
        few = omega (arith, one, h.few, g.few, length-append ls (u ∷ rs));
        placed = λ p.
            place (p u (Memᴰ.append_right ls (Memᴰ.head refl)))
            (h.placed λ v m. p v (Memᴰ.append_left (u ∷ rs) m))
            (g.placed λ v m. p v (Memᴰ.append_right ls (Memᴰ.tail m)));
      }

  front_fit : (t : Tree) (ts : List Token) (u : Token) → Fit t ts → Fit t (ts ++ (u ∷ []))
  front_fit t ts u h =
      record {
        few = omega (arith, h.few, length-append ts (u ∷ []));
        placed = λ p. h.placed λ v m. p v (Memᴰ.append_left (u ∷ []) m);
      }

  handed_on : HandedOn Fit
  handed_on =
      record {
        of_truth = λ at b w. atom_fit refl (λ p. p);
        of_numeral = λ at n. atom_fit refl (λ p. p);
        of_address = λ at w a b c q n. atom_fit refl (λ p. p);
        of_key = λ at w. atom_fit refl (λ p. p);
        of_field = λ at w a to f.
            record {
              few = omega arith;
              placed = λ p. (p _ (Memᴰ.head refl), p _ (Memᴰ.tail (Memᴰ.tail (Memᴰ.head refl))));
            };
        of_attribute = λ at to f.
            record { few = omega arith; placed = λ p. (p _ (Memᴰ.head refl), p _ (Memᴰ.tail (Memᴰ.head refl))) };
        of_prefix = λ at o t ts h.
            record {
              few = omega (arith, h.few);
              placed = λ p. (p _ (Memᴰ.head refl), h.placed λ v m. p v (Memᴰ.tail m));
            };
        of_parenthesis = λ at to t ts h.
            let g = front_fit t ts (sign_at to closing) h in
            record { few = omega (arith, g.few); placed = λ p. g.placed λ v m. p v (Memᴰ.tail m) };
        of_join = λ at o l r ls rs. two_fit (joined at o l r) l r ls rs (sign_at at (join o)) refl (λ p q h. (p, q, h));
        of_comparison = λ at c l r ls rs. two_fit (compared at c l r) l r ls rs (sign_at at (comparison c)) refl (λ p q h. (p, q, h));
        of_trailing = front_fit;
      }

  valid_fits : (t : Tree) (ts : List Token) → Valid t ts → Fit t ts
  valid_fits = valid_has Fit handed_on

pub nodes_within_tokens : NodesWithinTokens
nodes_within_tokens size ts t h = (valid_fits (λ at. Unit {0}) t ts ((read_is_valid size ts t).0 h)).few

pub places_as_offsets : (P : ℕ → Type 0) (size : ℕ) (ts : List Token) (t : Tree) → parsed size ts ≡ ok t
    → Offsets P ts → Everywhere P t
places_as_offsets P size ts t h = (valid_fits P t ts ((read_is_valid size ts t).0 h)).placed

pub places_are_offsets : PlacesAreOffsets
places_are_offsets size ts t h = places_as_offsets (OffsetIn ts) size ts t h (λ u m. (u, m, refl))
