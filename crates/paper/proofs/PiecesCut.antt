-- Pieces of a text that stand one after the other are cut into the tokens of each, one after the other: no offset is computed.
use Prim.Native.Nat.{ℕ, suc, ◌+◌, ◌<◌}
use native.Mathlib.Omega.{arith}
use mathlib.Core.Path.{◌≡◌, refl, sym, ap, ap₂, subst, ◌∙◌}
use mathlib.Core.List.{List, [], ◌∷◌, ◌++◌, append_assoc, append-nil, head-eq_of_cons-eq, tail-eq_of_cons-eq}
use lib.ListN.{length, drop, length-append, length-drop}
use lib.Seq.{drop-cons}
use Rattle.paper.specs.Tokens.{Tok, Token, token, scan}
use Rattle.paper.specs.Sentences.{token_at}
use Rattle.paper.specs.Faults.{scan_at, Cut, a_blank, a_token}
use Rattle.paper.proofs.Digits.{drop_on}

module _ (text : List ℕ) where
  -- whatever tokens stand before an offset, these are those of the bytes s at it
  abbrev pub Lexed : ℕ → List ℕ → List Token → Type 0
  Lexed at s us = (ts : List Token) → Cut text at ts → Cut text (at + length s) (ts ++ us)

  pub lexed_then : (at : ℕ) (s p : List ℕ) (us vs : List Token) → Lexed at s us → Lexed (at + length s) p vs → Lexed at (s ++ p) (us ++ vs)
  lexed_then at s p us vs h g ts cut =
      let e : at + length s + length p ≡ at + length (s ++ p) = omega (arith, length-append s p) in
      subst (λ n. Cut text n (ts ++ (us ++ vs))) e (subst (Cut text (at + length s + length p)) (append_assoc ts us vs) (g (ts ++ us) (h ts cut)))

  inside : (at b : ℕ) (s : List ℕ) → drop at text ≡ b ∷ s → at < length text
  inside at b s e = omega (arith, length-drop at text, ap length e)

  scanned : (at b : ℕ) (s : List ℕ) → drop at text ≡ b ∷ s → scan_at text at ≡ scan b s
  scanned at b s e =
      let cons = sym (drop-cons text at 0 (inside at b s e)) ∙ e in
      ap₂ scan (head-eq_of_cons-eq cons) (tail-eq_of_cons-eq cons)

  pub lexed_token : (at b : ℕ) (s rest : List ℕ) (k : Tok) → drop at text ≡ b ∷ (s ++ rest) → scan b (s ++ rest) ≡ token k (length s)
      → Lexed at (b ∷ s) (token_at at k ∷ [])
  lexed_token at b s rest k here e ts cut =
      let f : suc at + length s ≡ at + suc (length s) = omega arith in
      subst (λ n. Cut text n (ts ++ (token_at at k ∷ []))) f
      (a_token k (length s) cut (inside at b (s ++ rest) here) (scanned at b (s ++ rest) here ∙ e))

  pub lexed_blank : (at : ℕ) (rest : List ℕ) → drop at text ≡ 32 ∷ rest → Lexed at (32 ∷ []) []
  unfolding scan
  lexed_blank at rest here ts cut =
      let f : suc at + 0 ≡ at + 1 = omega arith in
      subst (Cut text (at + 1)) (sym (append-nil ts))
      (subst (λ n. Cut text n ts) f (a_blank 0 cut (inside at 32 rest here) (scanned at 32 rest here)))

  -- what stands after a piece
  pub after : (at : ℕ) (s p : List ℕ) → drop at text ≡ s ++ p → drop (at + length s) text ≡ p
  after at s p h = drop_on text s p at (at + length s) h refl
