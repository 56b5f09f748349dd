-- What every tree has that the parser yields: one law for each of its combinators.
use Prim.Native.Nat.{ℕ, zero, suc}
use mathlib.Core.Bool.{Bool, true, false, cond}
use mathlib.Core.Option.{Option, none, some}
use mathlib.Core.List.{List, [], ◌∷◌}
use lib.ListN.{length}
use lib.Dec.{eqb}
use Rattle.paper.specs.Tokens.{Literal, plain, bytes, same_bytes, undotted, Prefix, Join, Comparison, Sign, join, comparison, prefix, opening, closing, colons, Tok, word, numeral, string, sign, Token}
use Rattle.paper.specs.Addresses.{Scheme, scheme_of}
use Rattle.paper.specs.Grammar.{Tree, truth, number, key, field, attribute, prefixed, joined, compared, got, stuck, Out, ends, deep, bad, ◌>>>◌, Parser, Make, join_no, sign_joins, sign_compares, by_sign, once_with, once_more, once, after_operator, more_with, more, chain, is_sign, closed, name_at, named, Reader, address_with, address_at, addressed, opens_address, keyed, worded, signed, operand_at, operand}
use Rattle.paper.proofs.Basics.{If}
use Rattle.paper.proofs.TokenNumbers.{Good, AllGood}

-- a tree that has a property, and good tokens after it

abbrev pub Got : (Tree → Type 0) → Out → Type 0
Got P (ends (got t) us) = P t × AllGood us
Got P (ends stuck us) = Unit {0}
Got P (deep at) = Unit {0}
Got P (bad at) = Unit {0}

abbrev pub Yields : (Tree → Type 0) → Parser → Type 0
Yields P p = (ts : List Token) → AllGood ts → Got P (p ts)

pub got_all : (P Q : Tree → Type 0) → ((t : Tree) → P t → Q t) → (o : Out) → Got P o → Got Q o
got_all P Q f (ends (got t) us) h = (f t h.0, h.1)
got_all P Q f (ends stuck us) h = tt
got_all P Q f (deep at) h = tt
got_all P Q f (bad at) h = tt

pub got_then : (P Q : Tree → Type 0) (o : Out) (f : Tree → List Token → Out) → Got P o → ((t : Tree) (us : List Token) → P t → AllGood us → Got Q (f t us))
    → Got Q (o >>> f)
got_then P Q (ends (got t) us) f h k = k t us h.0 h.1
got_then P Q (ends stuck us) f h k = tt
got_then P Q (deep at) f h k = tt
got_then P Q (bad at) f h k = tt

-- operators

abbrev Makes : (P Q R : Tree → Type 0) → Make → Type 0
Makes P Q R make = (l r : Tree) → P l → Q r → R (make l r)

module _ (P Q R : Tree → Type 0) where
  pub join_makes : ((at : ℕ) (o : Join) → Makes P Q R (joined at o)) → (o : Join) (at : ℕ) (t : Tok) → If (Makes P Q R) (by_sign t (sign_joins o at))
  join_makes h o at (word w) = tt
  join_makes h o at (numeral n) = tt
  join_makes h o at (string q) = tt
  join_makes h o at (sign (join j)) = go (eqb (join_no j) (join_no o))
    where
      go : (b : Bool) → If (Makes P Q R) (cond b (some (joined at j)) none)
      go true = h at j
      go false = tt
  join_makes h o at (sign (comparison c)) = tt
  join_makes h o at (sign (prefix p)) = tt
  join_makes h o at (sign opening) = tt
  join_makes h o at (sign closing) = tt
  join_makes h o at (sign colons) = tt

  pub comparison_makes : ((at : ℕ) (c : Comparison) → Makes P Q R (compared at c)) → (at : ℕ) (t : Tok) → If (Makes P Q R) (by_sign t (sign_compares at))
  comparison_makes h at (word w) = tt
  comparison_makes h at (numeral n) = tt
  comparison_makes h at (string q) = tt
  comparison_makes h at (sign (join j)) = tt
  comparison_makes h at (sign (comparison c)) = h at c
  comparison_makes h at (sign (prefix p)) = tt
  comparison_makes h at (sign opening) = tt
  comparison_makes h at (sign closing) = tt
  comparison_makes h at (sign colons) = tt

-- combinators, over what they are given (P) and what they yield (R)

module _ (P R : Tree → Type 0) (op : Token → Option Make) (p : Parser) (yields : Yields P p) (alone : (t : Tree) → P t → R t) where
  once_with_lem : (t : Tree) (u : Token) (us : List Token) (o : Option Make) → P t → Good u.tok → AllGood us → If (Makes P P R) o
      → Got R (once_with p t u us o)
  once_with_lem t u us none h g gs m = (alone t h, (g, gs))
  once_with_lem t u us (some make) h g gs m = got_then P R (p us) _ (yields us gs) (λ r vs k all. (m t r h k, all))

  once_more_lem : ((u : Token) → If (Makes P P R) (op u)) → (t : Tree) (us : List Token) → P t → AllGood us → Got R (once_more op p t us)
  once_more_lem m t [] h gs = (alone t h, tt)
  once_more_lem m t (u ∷ us) h gs = once_with_lem t u us (op u) h gs.0 gs.1 (m u)

  pub once_yields : ((u : Token) → If (Makes P P R) (op u)) → Yields R (once op p)
  unfolding once
  once_yields m ts gs = got_then P R (p ts) (once_more op p) (yields ts gs) (once_more_lem m)

  operator_got : (last : Bool) (t : Tree) (us : List Token) (o : Out) → R t → AllGood us → Got R o → Got R (after_operator last t us o)
  operator_got false t us o h gs k = k
  operator_got true t [] o h gs k = (h, tt)
  operator_got true t (u ∷ us) o h gs k = k

  more_with_lem : (t : Tree) (u : Token) (us : List Token) (o : Option Make) (go : Make → Out) → R t → Good u.tok → AllGood us
      → If (Makes R P R) o → ((make : Make) → Makes R P R make → Got R (go make)) → Got R (more_with t u us o go)
  more_with_lem t u us none go h g gs m k = (h, (g, gs))
  more_with_lem t u us (some make) go h g gs m k = k make m

  more_yields : ((u : Token) → If (Makes R P R) (op u)) → (last : Bool) (n : ℕ) (t : Tree) (us : List Token) → R t → AllGood us
      → Got R (more last op p n t us)
  unfolding more
  more_yields m last zero t us h gs = (h, gs)
  more_yields m last (suc n) t [] h gs = (h, tt)
  more_yields m last (suc n) t (u ∷ us) h gs =
      more_with_lem t u us (op u) _ h gs.0 gs.1 (m u)
      (λ make makes.
      operator_got last t us _ h gs.1
      (got_then P R (p us) _ (yields us gs.1) (λ r vs k all. more_yields m last n (make t r) vs (makes t r h k) all)))

  pub chain_yields : ((u : Token) → If (Makes R P R) (op u)) → (last : Bool) → Yields R (chain last op p)
  unfolding chain
  chain_yields m last ts gs =
      got_then P R (p ts) _ (yields ts gs) (λ t us h all. more_yields m last (length us) t us (alone t h) all)

-- operands

module _ (R : Tree → Type 0) (leaf-truth : (at : ℕ) (b : Bool) → R (truth at b)) (leaf-key : (at : ℕ) (w : List ℕ) → R (key at w))
    (leaf-field : (at : ℕ) (w : List ℕ) (to : ℕ) (f : List ℕ) → R (field at w to f)) (leaf-attribute : (at to : ℕ) (f : List ℕ) → R (attribute at to f))
    (leaf-number : (at : ℕ) (n : Literal) → Good (numeral n) → R (number at n)) (within : (at : ℕ) (o : Prefix) (t : Tree) → R t → R (prefixed at o t))
    (read : Reader) (reads : (s : Scheme) (q : List ℕ) → If (λ n. Good (numeral (plain n))) (read s q)) where
  closed_got : (t : Tree) (us : List Token) → R t → AllGood us → Got R (closed t us)
  closed_got t [] h gs = tt
  closed_got t (u ∷ us) h gs = go (is_sign closing u.tok)
    where
      go : (b : Bool) → Got R (cond b (ends (got t) us) (ends stuck (u ∷ us)))
      go true = (h, gs.1)
      go false = tt

  name_got : (make : ℕ → List ℕ → Tree) → ((to : ℕ) (f : List ℕ) → R (make to f)) → (t : Tok) (u : Token) (us : List Token) → AllGood us
      → Got R (name_at t make u us)
  name_got make h (word w) u us gs = go (undotted w)
    where
      go : (b : Bool) → Got R (cond b (ends (got (make u.at w)) us) (ends stuck (u ∷ us)))
      go true = (h u.at w, gs)
      go false = tt
  name_got make h (numeral n) u us gs = tt
  name_got make h (string q) u us gs = tt
  name_got make h (sign g) u us gs = tt

  named_got : (make : ℕ → List ℕ → Tree) → ((to : ℕ) (f : List ℕ) → R (make to f)) → (us : List Token) → AllGood us → Got R (named make us)
  named_got make h [] gs = tt
  named_got make h (u ∷ us) gs = name_got make h u.tok u us gs.1

  address_got : (o : Option ℕ) (at : ℕ) (u : Token) (us : List Token) → If (λ n. Good (numeral (plain n))) o → AllGood us → Got R (address_with o at u us)
  address_got none at u us h gs = tt
  address_got (some n) at u us h gs = closed_got (number at (plain n)) us (leaf-number at (plain n) h) gs

  address_at_got : (s : Scheme) (at : ℕ) (t : Tok) (u : Token) (us : List Token) → AllGood us → Got R (address_at read s at t u us)
  address_at_got s at (word w) u us gs = tt
  address_at_got s at (numeral n) u us gs = tt
  address_at_got s at (string q) u us gs = address_got (read s q) at u us (reads s q) gs
  address_at_got s at (sign g) u us gs = tt

  addressed_got : (s : Scheme) (at : ℕ) (us : List Token) → AllGood us → Got R (addressed read s at us)
  addressed_got s at [] gs = tt
  addressed_got s at (u ∷ us) gs = address_at_got s at u.tok u us gs.1

  opens_got : (o : Option Scheme) (at : ℕ) (w : List ℕ) (u : Token) (us : List Token) → AllGood (u ∷ us) → Got R (opens_address read o at w u us)
  opens_got none at w u us gs = (leaf-key at w, gs)
  opens_got (some s) at w u us gs = addressed_got s at us gs.1

  keyed_got : (at : ℕ) (w : List ℕ) (us : List Token) → AllGood us → Got R (keyed read at w us)
  keyed_got at w [] gs = (leaf-key at w, tt)
  keyed_got at w (u ∷ us) gs = go (is_sign colons u.tok) (is_sign opening u.tok)
    where
      go : (c o : Bool) → Got R (cond c (named (field at w) us) (cond o (opens_address read (scheme_of w) at w u us) (ends (got (key at w)) (u ∷ us))))
      go true o = named_got (field at w) (leaf-field at w) us gs.1
      go false true = opens_got (scheme_of w) at w u us gs
      go false false = (leaf-key at w, gs)

  worded_got : (at : ℕ) (w : List ℕ) (us : List Token) → AllGood us → Got R (worded read at w us)
  worded_got at w us gs = go (same_bytes w (bytes "true")) (same_bytes w (bytes "false"))
    where
      go : (a b : Bool) → Got R (cond a (ends (got (truth at true)) us) (cond b (ends (got (truth at false)) us) (keyed read at w us)))
      go true b = (leaf-truth at true, gs)
      go false true = (leaf-truth at false, gs)
      go false false = keyed_got at w us gs

  module _ (inner outer : ℕ → Parser) (inside : (at : ℕ) → Yields R (inner at)) (around : (at : ℕ) → Yields R (outer at)) where
    signed_got : (g : Sign) (u : Token) (us : List Token) → AllGood us → Got R (signed inner outer g u us)
    signed_got (join j) u us gs = tt
    signed_got (comparison c) u us gs = tt
    signed_got (prefix o) u us gs = got_then R R (inner u.at us) _ (inside u.at us gs) (λ t vs h all. (within u.at o t h, all))
    signed_got opening u us gs = got_then R R (outer u.at us) closed (around u.at us gs) closed_got
    signed_got closing u us gs = tt
    signed_got colons u us gs = named_got (attribute u.at) (leaf-attribute u.at) us gs

    operand_at_got : (t : Tok) (u : Token) (us : List Token) → Good t → AllGood us → Got R (operand_at read inner outer t u us)
    operand_at_got (word w) u us g gs = worded_got u.at w us gs
    operand_at_got (numeral n) u us g gs = (leaf-number u.at n g, gs)
    operand_at_got (string q) u us g gs = tt
    operand_at_got (sign s) u us g gs = signed_got s u us gs

    pub operand_yields : Yields R (operand read inner outer)
    unfolding operand
    operand_yields [] gs = tt
    operand_yields (u ∷ us) gs = operand_at_got u.tok u us gs.0 gs.1
