-- A parser with more levels, or with a reader of address strings that reads more, changes no tree and no stuck answer. With
-- equally many levels it changes no answer 9, and with the same reader none of 10.
use Prim.Native.Nat.{ℕ, zero, suc, ◌≤◌}
use mathlib.Core.Path.{◌≡◌, refl}
use mathlib.Core.Bool.{Bool, true, false, cond}
use mathlib.Core.Option.{Option, none, some}
use mathlib.Core.List.{List, [], ◌∷◌}
use lib.ListN.{length}
use native.Mathlib.Omega.{arith}
use Rattle.paper.specs.Tokens.{plain, bytes, same_bytes, Sign, join, comparison, prefix, opening, closing, colons, Tok, word, numeral, string, sign, Token, sequel, implies, or_else, and_also}
use Rattle.paper.specs.Addresses.{Scheme, scheme_of}
use Rattle.paper.specs.Grammar.{Tree, number, key, field, truth, attribute, got, stuck, Out, ends, deep, bad, ◌>>>◌, Parser, Make, Reader, once_with, once_more, once, after_operator, more_with, more, chain, joins, compares, implication, sequence, is_sign, closed, named, address_with, address_at, addressed, opens_address, keyed, worded, signed, operand_at, operand, prefixes, finished, whole}

-- what is kept: always trees and stuck answers, and the other two under two conditions
abbrev pub Keeps : Type 0 → Type 0 → Out → Out → Type 0
Keeps Nine Ten (ends e us) o = o ≡ ends e us
Keeps Nine Ten (deep at) o = Nine → o ≡ deep at
Keeps Nine Ten (bad at) o = Ten → o ≡ bad at

module _ (Nine Ten : Type 0) where
  keeps_same : (o : Out) → Keeps Nine Ten o o
  keeps_same (ends e us) = refl
  keeps_same (deep at) = λ _. refl
  keeps_same (bad at) = λ _. refl

  keeps_then : (o o' : Out) (f g : Tree → List Token → Out) → Keeps Nine Ten o o'
      → ((t : Tree) (us : List Token) → Keeps Nine Ten (f t us) (g t us)) → Keeps Nine Ten (o >>> f) (o' >>> g)
  keeps_then (ends (got t) us) o' f g h next = rw h (next t us)
  keeps_then (ends stuck us) o' f g h next = rw h
  keeps_then (deep at) o' f g h next = λ c. rw (h c)
  keeps_then (bad at) o' f g h next = λ c. rw (h c)

  pub record Kept (p q : Parser) : Type 0 where
    pub keeps : (ts : List Token) → Keeps Nine Ten (p ts) (q ts)

  module _ (op : Token → Option Make) {p q : Parser} (kept : Kept p q) where
    once_with_lem : (t : Tree) (u : Token) (us : List Token) (o : Option Make)
        → Keeps Nine Ten (once_with p t u us o) (once_with q t u us o)
    once_with_lem t u us none = refl
    once_with_lem t u us (some make) = keeps_then (p us) (q us) _ _ (kept.keeps us) (λ r vs. refl)

    once_more_lem : (t : Tree) (us : List Token) → Keeps Nine Ten (once_more op p t us) (once_more op q t us)
    once_more_lem t [] = refl
    once_more_lem t (u ∷ us) = once_with_lem t u us (op u)

    once_keeps : Kept (once op p) (once op q)
    unfolding once
    once_keeps = record { keeps = λ ts. keeps_then (p ts) (q ts) _ _ (kept.keeps ts) once_more_lem }

    module _ (last : Bool) where
      operator_keeps : (last : Bool) (t : Tree) (us : List Token) (o o' : Out) → Keeps Nine Ten o o'
          → Keeps Nine Ten (after_operator last t us o) (after_operator last t us o')
      operator_keeps false t us o o' h = h
      operator_keeps true t [] o o' h = refl
      operator_keeps true t (u ∷ us) o o' h = h

      more_with_lem : (t : Tree) (u : Token) (us : List Token) (o : Option Make) (f g : Make → Out)
          → ((make : Make) → Keeps Nine Ten (f make) (g make)) → Keeps Nine Ten (more_with t u us o f) (more_with t u us o g)
      more_with_lem t u us none f g h = refl
      more_with_lem t u us (some make) f g h = h make

      more_keeps : (n : ℕ) (t : Tree) (us : List Token) → Keeps Nine Ten (more last op p n t us) (more last op q n t us)
      unfolding more
      more_keeps zero t us = refl
      more_keeps (suc n) t [] = refl
      more_keeps (suc n) t (u ∷ us) =
          more_with_lem t u us (op u) _ _
          (λ make. operator_keeps last t us _ _
          (keeps_then (p us) (q us) _ _ (kept.keeps us) (λ r vs. more_keeps n (make t r) vs)))

      chain_keeps : Kept (chain last op p) (chain last op q)
      unfolding chain
      chain_keeps =
          record { keeps = λ ts. keeps_then (p ts) (q ts) _ _ (kept.keeps ts) (λ t us. more_keeps (length us) t us) }

  module _ {p q : Parser} (kept : Kept p q) where
    sequence_keeps : (last : Bool) → Kept (sequence last p) (sequence last q)
    unfolding sequence implication
    sequence_keeps last =
        chain_keeps (joins sequel)
        (once_keeps (joins implies)
        (chain_keeps (joins or_else) (chain_keeps (joins and_also) (once_keeps compares kept) false) false)) last

  module _ (read read' : Reader) (some-kept : (s : Scheme) (q : List ℕ) (n : ℕ) → read s q ≡ some n → read' s q ≡ some n)
      (none_kept : Ten → (s : Scheme) (q : List ℕ) → read s q ≡ none → read' s q ≡ none) where
    addressed_keeps : (s : Scheme) (at : ℕ) (us : List Token) → Keeps Nine Ten (addressed read s at us) (addressed read' s at us)
    addressed_keeps s at [] = refl
    addressed_keeps s at (u ∷ us) = after_opening u.tok
      where
        string_keeps : (q : List ℕ) (o : Option ℕ) → read s q ≡ o
            → Keeps Nine Ten (address_with o at u us) (address_with (read' s q) at u us)
        string_keeps q none e = λ c. rw (none_kept c s q e)
        string_keeps q (some n) e = rw (some-kept s q n e) (keeps_same (closed (number at (plain n)) us))

        after_opening : (x : Tok) → Keeps Nine Ten (address_at read s at x u us) (address_at read' s at x u us)
        after_opening (word w) = refl
        after_opening (numeral n) = refl
        after_opening (string q) = string_keeps q (read s q) refl
        after_opening (sign g) = refl

    keyed_keeps : (at : ℕ) (w : List ℕ) (us : List Token) → Keeps Nine Ten (keyed read at w us) (keyed read' at w us)
    keyed_keeps at w [] = refl
    keyed_keeps at w (u ∷ us) = after_word (is_sign colons u.tok) (is_sign opening u.tok)
      where
        opening_keeps : (o : Option Scheme) → Keeps Nine Ten (opens_address read o at w u us) (opens_address read' o at w u us)
        opening_keeps none = refl
        opening_keeps (some s) = addressed_keeps s at us

        tested : Reader → Bool → Bool → Out
        tested r c o = cond c (named (field at w) us) (cond o (opens_address r (scheme_of w) at w u us) (ends (got (key at w)) (u ∷ us)))

        after_word : (c o : Bool) → Keeps Nine Ten (tested read c o) (tested read' c o)
        after_word true o = keeps_same (named (field at w) us)
        after_word false true = opening_keeps (scheme_of w)
        after_word false false = refl

    worded_keeps : (at : ℕ) (w : List ℕ) (us : List Token) → Keeps Nine Ten (worded read at w us) (worded read' at w us)
    worded_keeps at w us = after_tests (same_bytes w (bytes "true")) (same_bytes w (bytes "false"))
      where
        tested : Reader → Bool → Bool → Out
        tested r a b = cond a (ends (got (truth at true)) us) (cond b (ends (got (truth at false)) us) (keyed r at w us))

        after_tests : (a b : Bool) → Keeps Nine Ten (tested read a b) (tested read' a b)
        after_tests true b = refl
        after_tests false true = refl
        after_tests false false = keyed_keeps at w us

    module _ (inner inner' outer outer' : ℕ → Parser) (inner-kept : (at : ℕ) → Kept (inner at) (inner' at))
        (outer-kept : (at : ℕ) → Kept (outer at) (outer' at)) where
      signed_keeps : (g : Sign) (u : Token) (us : List Token)
          → Keeps Nine Ten (signed inner outer g u us) (signed inner' outer' g u us)
      signed_keeps (join j) u us = refl
      signed_keeps (comparison c) u us = refl
      signed_keeps (prefix o) u us =
          keeps_then (inner u.at us) (inner' u.at us) _ _ ((inner-kept u.at).keeps us) (λ t vs. refl)
      signed_keeps opening u us =
          keeps_then (outer u.at us) (outer' u.at us) _ _ ((outer-kept u.at).keeps us) (λ t vs. keeps_same (closed t vs))
      signed_keeps closing u us = refl
      signed_keeps colons u us = keeps_same (named (attribute u.at) us)

      operand_at_lem : (x : Tok) (u : Token) (us : List Token)
          → Keeps Nine Ten (operand_at read inner outer x u us) (operand_at read' inner' outer' x u us)
      operand_at_lem (word w) u us = worded_keeps u.at w us
      operand_at_lem (numeral n) u us = refl
      operand_at_lem (string q) u us = refl
      operand_at_lem (sign g) u us = signed_keeps g u us

      operand_to : (ts : List Token) → Keeps Nine Ten (operand read inner outer ts) (operand read' inner' outer' ts)
      unfolding operand
      operand_to [] = refl
      operand_to (u ∷ us) = operand_at_lem u.tok u us

      operand_keeps : Kept (operand read inner outer) (operand read' inner' outer')
      operand_keeps = record { keeps = operand_to }

    -- an answer 9 is kept where the levels are the same
    prefixes_keeps : (l m : ℕ) → l ≤ m → (Nine → l ≡ m) → Kept (prefixes read l) (prefixes read' m)
    unfolding prefixes
    prefixes_keeps zero zero h e =
        operand_keeps (λ at us. deep at) (λ at us. deep at) (λ at us. deep at) (λ at us. deep at)
        (λ at. record { keeps = λ ts _. refl }) (λ at. record { keeps = λ ts _. refl })
    prefixes_keeps zero (suc m) h e =
        operand_keeps (λ at us. deep at) (λ at. prefixes read' m) (λ at us. deep at) (λ at. sequence false (prefixes read' m))
        (λ at. record { keeps = λ ts c. absurd (omega (arith, e c)) })
        (λ at. record { keeps = λ ts c. absurd (omega (arith, e c)) })
    prefixes_keeps (suc l) zero h e = absurd (omega arith)
    prefixes_keeps (suc l) (suc m) h e =
        let below = prefixes_keeps l m (omega arith) (λ c. omega (arith, e c)) in
        operand_keeps (λ at. prefixes read l) (λ at. prefixes read' m) (λ at. sequence false (prefixes read l))
        (λ at. sequence false (prefixes read' m)) (λ at. below) (λ at. sequence_keeps below false)

    pub whole_keeps : (l m : ℕ) → l ≤ m → (Nine → l ≡ m) → (ts : List Token)
        → Keeps Nine Ten (whole read l ts) (whole read' m ts)
    unfolding whole
    whole_keeps l m h e ts =
        keeps_then (sequence true (prefixes read l) ts) (sequence true (prefixes read' m) ts) finished finished
        ((sequence_keeps (prefixes_keeps l m h e) true).keeps ts) (λ t us. keeps_same (finished t us))
