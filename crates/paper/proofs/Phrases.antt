-- A property of phrases that atoms have, and that operators, prefixes, parentheses and a trailing ";" hand on, holds of every valid text.
use Prim.Native.Nat.{ℕ, zero, suc}
use mathlib.Core.Bool.{Bool, true, false}
use mathlib.Core.List.{List, [], ◌∷◌, ◌++◌}
use Rattle.paper.specs.Tokens.{Literal, plain, bytes, Prefix, Join, sequel, implies, or_else, and_also, Comparison, join, comparison, prefix, opening, closing, colons, word, numeral, string, Token}
use Rattle.paper.specs.Addresses.{address}
use Rattle.paper.specs.Grammar.{Tree, truth, number, key, field, attribute, prefixed, joined, compared, Make, Reader, most_levels}
use Rattle.paper.specs.Sentences.{Phrases, token_at, sign_at, Operator, Joining, joining, Comparing, comparing, Once, none_of, one_of, Chain, first, further, Operand, a_true, a_false, a_numeral, an_address, a_key, a_field, an_attribute, a_prefixed, a_parenthesis, Implication, Prefixed, Trailing, without, trailing, Valid}

pub record HandedOn (Q : Tree → List Token → Type 0) : Type 0 where
  pub of_truth : (at : ℕ) (b : Bool) (w : List ℕ) → Q (truth at b) (token_at at (word w) ∷ [])
  pub of_numeral : (at : ℕ) (n : Literal) → Q (number at n) (token_at at (numeral n) ∷ [])
  pub of_address : (at : ℕ) (w : List ℕ) (a b c : ℕ) (q : List ℕ) (n : ℕ)
      → Q (number at (plain n)) (token_at at (word w) ∷ sign_at a opening ∷ token_at b (string q) ∷ sign_at c closing ∷ [])
  pub of_key : (at : ℕ) (w : List ℕ) → Q (key at w) (token_at at (word w) ∷ [])
  pub of_field : (at : ℕ) (w : List ℕ) (a to : ℕ) (f : List ℕ)
      → Q (field at w to f) (token_at at (word w) ∷ sign_at a colons ∷ token_at to (word f) ∷ [])
  pub of_attribute : (at to : ℕ) (f : List ℕ) → Q (attribute at to f) (sign_at at colons ∷ token_at to (word f) ∷ [])
  pub of_prefix : (at : ℕ) (o : Prefix) (t : Tree) (ts : List Token) → Q t ts → Q (prefixed at o t) (sign_at at (prefix o) ∷ ts)
  pub of_parenthesis : (at to : ℕ) (t : Tree) (ts : List Token) → Q t ts → Q t (sign_at at opening ∷ (ts ++ (sign_at to closing ∷ [])))
  pub of_join : (at : ℕ) (o : Join) (l r : Tree) (ls rs : List Token) → Q l ls → Q r rs
      → Q (joined at o l r) (ls ++ (sign_at at (join o) ∷ rs))
  pub of_comparison : (at : ℕ) (c : Comparison) (l r : Tree) (ls rs : List Token) → Q l ls → Q r rs
      → Q (compared at c l r) (ls ++ (sign_at at (comparison c) ∷ rs))
  pub of_trailing : (t : Tree) (ts : List Token) (u : Token) → Q t ts → Q t (ts ++ (u ∷ []))

module _ (Q : Tree → List Token → Type 0) (on : HandedOn Q) where
  abbrev Has : Phrases → Type 0
  Has S = (t : Tree) (ts : List Token) → S t ts → Q t ts

  abbrev Handed : Operator → Type 0
  Handed op = (u : Token) (make : Make) → op u make → (l r : Tree) (ls rs : List Token) → Q l ls → Q r rs → Q (make l r) (ls ++ (u ∷ rs))

  by_joining : (o : Join) → Handed (Joining o)
  by_joining o u make (joining at) l r ls rs h g = on.of_join at o l r ls rs h g

  by_comparing : Handed Comparing
  by_comparing u make (comparing at c) l r ls rs h g = on.of_comparison at c l r ls rs h g

  module _ {op : Operator} (handed : Handed op) {S : Phrases} (below : Has S) where
    once_has : Has (Once op S)
    once_has t ts (none_of h) = below t ts h
    once_has t ts (one_of {l = l} {r = r} {ls = ls} {rs = rs} {u = u} {make = make} h o g) =
        handed u make o l r ls rs (below l ls h) (below r rs g)

    chain_has : Has (Chain op S)
    chain_has t ts (first h) = below t ts h
    chain_has t ts (further {l = l} {r = r} {ls = ls} {rs = rs} {u = u} {make = make} h o g) =
        handed u make o l r ls rs (chain_has l ls h) (below r rs g)

    trailing_has : Has (Trailing op S)
    trailing_has t ts (without h) = chain_has t ts h
    trailing_has t ts (trailing {ts = vs} {u = u} h o) = on.of_trailing t vs u (chain_has t vs h)

  module _ (read : Reader) {Inner Outer : Phrases} (inner : Has Inner) (outer : Has Outer) where
    operand_has : Has (Operand read Inner Outer)
    operand_has t ts (a_true at) = on.of_truth at true (bytes "true")
    operand_has t ts (a_false at) = on.of_truth at false (bytes "false")
    operand_has t ts (a_numeral at n) = on.of_numeral at n
    operand_has t ts (an_address at w s a b c q n scheme found) = on.of_address at w a b c q n
    operand_has t ts (a_key at w name) = on.of_key at w
    operand_has t ts (a_field at w a to f name plain) = on.of_field at w a to f
    operand_has t ts (an_attribute at to f plain) = on.of_attribute at to f
    operand_has t ts (a_prefixed {t = r} {ts = rs} at o h) = on.of_prefix at o r rs (inner r rs h)
    operand_has t ts (a_parenthesis {ts = rs} at to h) = on.of_parenthesis at to t rs (outer t rs h)

  implication_has : {S : Phrases} → Has S → Has (Implication S)
  implication_has below =
      once_has (by_joining implies) (chain_has (by_joining or_else) (chain_has (by_joining and_also) (once_has by_comparing below)))

  prefixed_has : (read : Reader) (levels : ℕ) → Has (Prefixed read levels)
  unfolding Prefixed
  prefixed_has read zero = operand_has read (λ t ts h. absurd h) (λ t ts h. absurd h)
  prefixed_has read (suc levels) =
      let below = prefixed_has read levels in
      operand_has read below (chain_has (by_joining sequel) (implication_has below))

  pub valid_has : (t : Tree) (ts : List Token) → Valid t ts → Q t ts
  valid_has = trailing_has (by_joining sequel) (implication_has (prefixed_has address most_levels))
