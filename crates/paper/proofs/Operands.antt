-- What is said of the tokens of an operand: an atom, or a prefix operator or a parenthesis with what it stands before or holds,
-- and so of the ladder with any number of levels.
use Prim.Native.Nat.{ℕ}
use mathlib.Core.Path.{refl}
use mathlib.Core.List.{List, [], ◌∷◌, ◌++◌, append-nil}
use Rattle.paper.specs.Tokens.{plain, Prefix, join, comparison, prefix, opening, closing, colons, Tok, word, numeral, string, sign, Token}
use Rattle.paper.specs.Grammar.{Tree, number, attribute, prefixed, got, ends, deep, ◌>>>◌, Parser, Reader, closed, named, worded, operand}
use Rattle.paper.specs.Sentences.{token_at, sign_at, Operand, a_numeral, an_attribute, a_prefixed, a_parenthesis, by_prefix, by_parenthesis}
use Rattle.paper.proofs.ParserTakes.{of_end, of_next, Kind, exact, deeper, Family, Begun, Says, Tells, stays, extend, bind}
use Rattle.paper.proofs.Atoms.{Readers, closes_says, named_says, word_says}

abbrev zero_at : Token
zero_at = token_at 0 (numeral (plain 0))

module _ (reads : Kind → Reader) (readers : Readers reads) (inner outer : ℕ → Parser) (Inner Outer S : Family)
    (into : (k : Kind) (t : Tree) (ts : List Token) → Operand (reads k) (Inner k) (Outer k) t ts → S k t ts) where
  abbrev P : Parser
  P = operand (reads exact) inner outer

  operand_begun : Begun S []
  operand_begun k = (number 0 (plain 0), zero_at ∷ [], into k _ _ (a_numeral 0 (plain 0)))

  -- where a level opens
  module _
      (prefix-says : (at : ℕ) (o : Prefix) (us : List Token)
      → Says P S (sign_at at (prefix o) ∷ us) (inner at us >>> λ t vs. ends (got (prefixed at o t)) vs))
      (opening-says : (at : ℕ) (us : List Token) → Says P S (sign_at at opening ∷ us) (outer at us >>> closed)) where
    operand_at_lem : (at : ℕ) (x : Tok) (us : List Token) → Says P S (token_at at x ∷ us) (P (token_at at x ∷ us))
    unfolding operand
    operand_at_lem at (word w) us =
        extend P (worded (reads exact) at w) S (token_at at (word w) ∷ us) (token_at at (word w) ∷ []) us refl (λ vs _. refl)
        (word_says reads readers Inner Outer S into at w us)
    operand_at_lem at (numeral n) us =
        record {
          taken = token_at at (numeral n) ∷ [];
          split = refl;
          front = λ k. into k _ _ (a_numeral at n);
          local = λ vs _. refl;
        }
    operand_at_lem at (string q) us = stays (of_next _ λ ws. refl) operand_begun
    operand_at_lem at (sign (join j)) us = stays (of_next _ λ ws. refl) operand_begun
    operand_at_lem at (sign (comparison c)) us = stays (of_next _ λ ws. refl) operand_begun
    operand_at_lem at (sign (prefix o)) us = prefix-says at o us
    operand_at_lem at (sign opening) us = opening-says at us
    operand_at_lem at (sign closing) us = stays (of_next _ λ ws. refl) operand_begun
    operand_at_lem at (sign colons) us =
        extend P (named (attribute at)) S (sign_at at colons ∷ us) (sign_at at colons ∷ []) us refl (λ vs _. refl)
        (named_says (λ k t ws. S k t (sign_at at colons ∷ ws)) (attribute at)
        (λ k to f plain. into k _ _ (an_attribute at to f plain)) us)

    operand_says : (ts : List Token) → Says P S ts (P ts)
    unfolding operand
    operand_says [] = stays (of_end _ refl) operand_begun
    operand_says (u ∷ us) = operand_at_lem u.at u.tok us

    operand_tells : Tells P S
    operand_tells = record { says = operand_says }

-- no level is left
module _ (reads : Kind → Reader) (readers : Readers reads) (Inner Outer S : Family)
    (into : (k : Kind) (t : Tree) (ts : List Token) → Operand (reads k) (Inner k) (Outer k) t ts → S k t ts)
    (one-inner : Inner deeper (number 0 (plain 0)) (zero_at ∷ [])) (one-outer : Outer deeper (number 0 (plain 0)) (zero_at ∷ [])) where
  abbrev lowest : Parser
  lowest = operand (reads exact) (λ at us. deep at) (λ at us. deep at)

  begun : Begun S []
  begun = operand_begun reads readers (λ at us. deep at) (λ at us. deep at) Inner Outer S into

  lowest_prefix : (at : ℕ) (o : Prefix) (us : List Token) → Says lowest S (sign_at at (prefix o) ∷ us) (deep at)
  unfolding operand
  lowest_prefix at o us = (
    sign_at at (prefix o),
    us,
    refl,
    by_prefix at o,
    stays (of_next _ λ ws. refl)
        (begun, (prefixed at o (number 0 (plain 0)), zero_at ∷ [], into deeper _ _ (a_prefixed at o one-inner))),
  )

  lowest_opening : (at : ℕ) (us : List Token) → Says lowest S (sign_at at opening ∷ us) (deep at)
  unfolding operand
  lowest_opening at us = (
    sign_at at opening,
    us,
    refl,
    by_parenthesis at,
    stays (of_next _ λ ws. refl)
        (begun, (number 0 (plain 0), zero_at ∷ sign_at 0 closing ∷ [], into deeper _ _ (a_parenthesis at 0 one-outer))),
  )

  pub lowest_tells : Tells lowest S
  lowest_tells =
      operand_tells reads readers (λ at us. deep at) (λ at us. deep at) Inner Outer S into lowest_prefix lowest_opening

-- a level more than p and q have
module _ (reads : Kind → Reader) (readers : Readers reads) (p q : Parser) (Inner Outer S : Family)
    (into : (k : Kind) (t : Tree) (ts : List Token) → Operand (reads k) (Inner k) (Outer k) t ts → S k t ts)
    (inner-tells : Tells p Inner) (outer_tells : Tells q Outer) where
  abbrev higher : Parser
  higher = operand (reads exact) (λ at. p) (λ at. q)

  higher_prefix : (at : ℕ) (o : Prefix) (us : List Token)
      → Says higher S (sign_at at (prefix o) ∷ us) (p us >>> λ t vs. ends (got (prefixed at o t)) vs)
  unfolding operand
  higher_prefix at o us =
      extend higher (λ vs. p vs >>> λ t vs. ends (got (prefixed at o t)) vs) S (sign_at at (prefix o) ∷ us)
      (sign_at at (prefix o) ∷ []) us refl (λ vs _. refl)
      (bind p (λ t vs. ends (got (prefixed at o t)) vs) Inner (λ k t ws. S k t (sign_at at (prefix o) ∷ ws))
      (λ k t vs h. (prefixed at o t, [], rw append-nil (into k _ _ (a_prefixed at o h)))) us
      (λ t vs us _ h. stays (λ ws _. refl) (λ k. rw append-nil (into k _ _ (a_prefixed at o (h k))))) (inner-tells.says us))

  higher_opening : (at : ℕ) (us : List Token) → Says higher S (sign_at at opening ∷ us) (q us >>> closed)
  unfolding operand
  higher_opening at us =
      extend higher (λ vs. q vs >>> closed) S (sign_at at opening ∷ us) (sign_at at opening ∷ []) us refl (λ vs _. refl)
      (bind q closed Outer (λ k t ws. S k t (sign_at at opening ∷ ws))
      (λ k t vs h. (t, sign_at 0 closing ∷ [], into k _ _ (a_parenthesis at 0 h))) us
      (λ t vs us _ h. closes_says (λ k r ws. S k r (sign_at at opening ∷ vs ++ ws)) t
      (λ k to. into k _ _ (a_parenthesis at to (h k))) us) (outer_tells.says us))

  pub higher_tells : Tells higher S
  higher_tells = operand_tells reads readers (λ at. p) (λ at. q) Inner Outer S into higher_prefix higher_opening
