-- A phrase is taken whole, with its tree, where no token follows that could go on with it: for once, chain and operand, from
-- what is so below them.
use Prim.Native.Nat.{ℕ}
use mathlib.Core.Path.{◌≡◌, refl, sym, ap, ◌∙◌}
use mathlib.Core.Bool.{Bool, true, false, cond, ◌||◌, true≢false}
use mathlib.Core.Option.{Option, none, some, none-ne-some}
use mathlib.Core.List.{List, [], ◌∷◌, ◌++◌, append_assoc, append-nil}
use native.Mathlib.Omega.{arith}
use Rattle.paper.specs.Tokens.{bytes, opening, closing, colons, Token}
use Rattle.paper.specs.Addresses.{Scheme, scheme_of}
use Rattle.paper.specs.Grammar.{Tree, key, field, got, stuck, Out, ends, ◌>>>◌, Parser, Make, Reader, once_more, once, after_operator, chain, is_sign, closed, named, opens_address, keyed, worded, operand}
use Rattle.paper.specs.Sentences.{Phrases, sign_at, Name, Operator, Once, none_of, one_of, Chain, first, further, Trailing, without, trailing, Operand, a_true, a_false, a_numeral, an_address, a_key, a_field, an_attribute, a_prefixed, a_parenthesis}
use Rattle.paper.proofs.Words.{bytes_not}
use Rattle.paper.proofs.Operators.{Finds}
use Rattle.paper.proofs.Turns.{Shrinks, turns, chain_turns, turns_end, turns_next}

-- the next token, if there is one
abbrev pub Next : (Token → Type 0) → List Token → Type 0
Next F [] = Unit {0}
Next F (u ∷ us) = F u

pub record Complete (p : Parser) (S : Phrases) (F : Token → Type 0) : Type 0 where
  pub takes : (t : Tree) (ts us : List Token) → S t ts → Next F us → p (ts ++ us) ≡ ends (got t) us
  pub hungry : p [] ≡ ends stuck []

pub got_not_stuck : {t : Tree} {us vs : List Token} → ends (got t) us ≡ ends stuck vs → ⊥
got_not_stuck h = let z : ◌≡◌ {A = ℕ} 0 1 = cc in omega arith

-- a token that may follow, and is not one more of an operator
abbrev pub Past : (Token → Type 0) → (Token → Option Make) → Token → Type 0
Past F fn u = F u × (fn u ≡ none)

past_next : (F : Token → Type 0) (fn : Token → Option Make) (us : List Token) → Next (Past F fn) us → Next F us
past_next F fn [] h = tt
past_next F fn (u ∷ us) h = h.0

module _ {fn : Token → Option Make} {op : Operator} (finds : Finds fn op) {p : Parser} {S : Phrases} {F : Token → Type 0}
    (between : (u : Token) (make : Make) → op u make → F u) (complete : Complete p S F) where
  once_past : (t : Tree) (us : List Token) → Next (Past F fn) us → once_more fn p t us ≡ ends (got t) us
  once_past t [] h = refl
  once_past t (u ∷ us) h = rw h.1

  once_takes : (t : Tree) (ts us : List Token) → Once op S t ts → Next (Past F fn) us → once fn p (ts ++ us) ≡ ends (got t) us
  unfolding once
  once_takes t ts us (none_of h) next = rw (complete.takes t ts us h (past_next F fn us next)) (once_past t us next)
  once_takes t ts us (one_of {l = l} {r = r} {ls = ls} {rs = rs} {u = u} {make = make} h o g) next =
      rw (
        append_assoc,
        complete.takes l ls (u ∷ (rs ++ us)) h (between u make o),
        finds.heard u make o,
        complete.takes r rs us g (past_next F fn us next),
      )

  pub once_complete : Complete (once fn p) (Once op S) (Past F fn)
  unfolding once
  once_complete = record { takes = once_takes; hungry = rw complete.hungry }

  module _ (last : Bool) (shrinks : Shrinks p) where
    passes : (last : Bool) (t r : Tree) (us vs : List Token) (o : Out) → p us ≡ ends (got r) vs → after_operator last t us o ≡ o
    passes false t r us vs o h = refl
    passes true t r [] vs o h = absurd (got_not_stuck (sym h ∙ complete.hungry))
    passes true t r (u ∷ us) vs o h = refl

    reach : (t : Tree) (ts us : List Token) → Chain op S t ts → Next F us → chain last fn p (ts ++ us) ≡ turns last fn p t us
    reach t ts us (first h) next = rw (chain_turns, complete.takes t ts us h next)
    reach t ts us (further {l = l} {r = r} {ls = ls} {rs = rs} {u = u} {make = make} c o g) next =
        let e = complete.takes r rs us g next in
        rw append_assoc
        (reach l ls (u ∷ (rs ++ us)) c (between u make o)
        ∙ turns_next last fn p shrinks l u (rs ++ us)
        ∙ rw (finds.heard u make o) (passes last l r (rs ++ us) us _ e ∙ rw e))

    turns_past : (t : Tree) (us : List Token) → Next (Past F fn) us → turns last fn p t us ≡ ends (got t) us
    turns_past t [] h = turns_end last fn p t
    turns_past t (u ∷ us) h = turns_next last fn p shrinks t u us ∙ rw h.1

    pub chain_complete : Complete (chain last fn p) (Chain op S) (Past F fn)
    unfolding chain
    chain_complete =
        record {
          takes = λ t ts us h next. reach t ts us h (past_next F fn us next) ∙ turns_past t us next;
          hungry = rw complete.hungry;
        }

  pub trailing_takes : Shrinks p → (t : Tree) (ts : List Token) → Trailing op S t ts → chain true fn p ts ≡ ends (got t) []
  trailing_takes shrinks t ts (without h) = rw append-nil at ((chain_complete true shrinks).takes t ts [] h tt)
  trailing_takes shrinks t ts (trailing {ts = vs} {u = u} {make = make} h o) =
      reach true shrinks t vs (u ∷ []) h (between u make o) ∙ turns_next true fn p shrinks t u [] ∙ rw (finds.heard u make o)

-- operands

-- a token that goes on with no atom
abbrev pub AfterAtom : Token → Type 0
AfterAtom u = is_sign colons u.tok || is_sign opening u.tok ≡ false

module _ (read : Reader) (inner outer : ℕ → Parser) (Inner Outer : Phrases) (F : Token → Type 0)
    (inner-takes : (at : ℕ) (t : Tree) (ts us : List Token) → Inner t ts → Next AfterAtom us
    → inner at (ts ++ us) ≡ ends (got t) us)
    (outer-takes : (at : ℕ) (t : Tree) (ts us : List Token) → Outer t ts → Next F us → outer at (ts ++ us) ≡ ends (got t) us)
    (closing-follows : (at : ℕ) → F (sign_at at closing)) where
  key_takes : (at : ℕ) (w : List ℕ) (us : List Token) → Next AfterAtom us → keyed read at w us ≡ ends (got (key at w)) us
  key_takes at w [] h = refl
  key_takes at w (u ∷ us) h = go (is_sign colons u.tok) (is_sign opening u.tok) h
    where
      go : (c o : Bool) → c || o ≡ false
          → cond c (named (field at w) us) (cond o (opens_address read (scheme_of w) at w u us) (ends (got (key at w)) (u ∷ us)))
          ≡ ends (got (key at w)) (u ∷ us)
      go true o h = absurd (true≢false h)
      go false true h = absurd (true≢false h)
      go false false h = refl

  named_word : (at : ℕ) (w : List ℕ) (us : List Token) → Name w → worded read at w us ≡ keyed read at w us
  named_word at w us name = rw (bytes_not w (bytes "true") name.0, bytes_not w (bytes "false") name.1)

  scheme_name : (w : List ℕ) (s : Scheme) → scheme_of w ≡ some s → Name w
  scheme_name w s h =
      (λ e. none-ne-some s (sym (ap scheme_of e) ∙ h), λ e. none-ne-some s (sym (ap scheme_of e) ∙ h))

  operand_takes : (t : Tree) (ts us : List Token) → Operand read Inner Outer t ts → Next AfterAtom us
      → operand read inner outer (ts ++ us) ≡ ends (got t) us
  unfolding operand
  operand_takes t ts us (a_true at) next = refl
  operand_takes t ts us (a_false at) next = refl
  operand_takes t ts us (a_numeral at n) next = refl
  operand_takes t ts us (an_address at w s a b c q n scheme found) next =
      named_word at w _ (scheme_name w s scheme) ∙ rw (scheme, found)
  operand_takes t ts us (a_key at w name) next = named_word at w us name ∙ key_takes at w us next
  operand_takes t ts us (a_field at w a to f name plain) next = named_word at w _ name ∙ rw plain
  operand_takes t ts us (an_attribute at to f plain) next = rw plain
  operand_takes t ts us (a_prefixed {t = s} {ts = vs} at o h) next = rw (inner-takes at s vs us h next)
  operand_takes t ts us (a_parenthesis {ts = vs} at to h) next =
      ap (λ (ws : List Token). outer at ws >>> closed) (append_assoc vs (sign_at to closing ∷ []) us)
      ∙ rw (outer-takes at t vs (sign_at to closing ∷ us) h (closing-follows to))

  pub operand_complete : Complete (operand read inner outer) (Operand read Inner Outer) AfterAtom
  unfolding operand
  operand_complete = record { takes = operand_takes; hungry = refl }
