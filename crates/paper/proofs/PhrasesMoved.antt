-- The grammar looks at no place: tokens that are those of a valid text, places aside, are a valid text with the same tree, places aside. By one
-- induction on the phrase: each part of it is moved as its tokens are.
use Prim.Native.Nat.{ℕ, zero, suc}
use native.Mathlib.Omega.{arith}
use mathlib.Core.Path.{◌≡◌, refl, sym, ap, ap₂, subst}
use mathlib.Core.Bool.{true, false}
use mathlib.Core.List.{List, [], ◌∷◌, ◌++◌, head-eq_of_cons-eq, tail-eq_of_cons-eq}
use lib.ListN.{length}
use Rattle.paper.specs.Tokens.{opening, closing, plain, Join, sequel, implies, or_else, and_also, Tok, Token}
use Rattle.paper.specs.Addresses.{address}
use Rattle.paper.specs.Grammar.{Tree, truth, number, key, field, attribute, prefixed, joined, compared, Make, Reader, most_levels}
use Rattle.paper.specs.Print.{bare}
use Rattle.paper.specs.Sentences.{Phrases, token_at, sign_at, Operator, Joining, joining, Comparing, comparing, Once, none_of, one_of, Chain, first, further, Operand, a_true, a_false, a_numeral, an_address, a_key, a_field, an_attribute, a_prefixed, a_parenthesis, Implication, Prefixed, Trailing, without, trailing, Valid}
use Rattle.paper.specs.FixedRight.{toks_of}

-- tokens, each moved to some place

data Moved : List Token → List Token → Type 0 where
  none : Moved [] []
  next : {k : Tok} {ts us : List Token} (at to : ℕ) → Moved ts us → Moved (token_at at k ∷ ts) (token_at to k ∷ us)

moved : (ts us : List Token) → toks_of us ≡ toks_of ts → Moved ts us
moved [] [] e = none
moved [] (u ∷ us) e = absurd (omega (arith, ap length e))
moved (t ∷ ts) [] e = absurd (omega (arith, ap length e))
moved (t ∷ ts) (u ∷ us) e =
    let m = moved ts us (tail-eq_of_cons-eq e) in
    subst (λ (k : Tok). Moved (t ∷ ts) (token_at u.at k ∷ us)) (sym (head-eq_of_cons-eq e)) (next t.at u.at m)

data Parts (ls rs : List Token) : List Token → Type 0 where
  parts : {vs ws : List Token} → Moved ls vs → Moved rs ws → Parts ls rs (vs ++ ws)

split : (ls rs us : List Token) → Moved (ls ++ rs) us → Parts ls rs us
split [] rs us m = parts none m
split (l ∷ ls) rs us (next at to m) = later (split ls rs _ m)
  where
    later : {vs : List Token} → Parts ls rs vs → Parts (l ∷ ls) rs (token_at to l.tok ∷ vs)
    later (parts a b) = parts (next at to a) b

-- a kind of phrase, and an operator, that look at no place

abbrev Again : Phrases → Tree → List Token → Type 0
Again S t us = (r : Tree) × S r us × (bare r ≡ bare t)

-- wherever its tokens are moved to
abbrev Anywhere : Phrases → Tree → List Token → Type 0
Anywhere S t ts = (us : List Token) → Moved ts us → Again S t us

abbrev Moves : Phrases → Type 0
Moves S = (t : Tree) (ts : List Token) → S t ts → Anywhere S t ts

abbrev MakesAlike : Make → Make → Type 0
MakesAlike make made = (l r l' r' : Tree) → bare l' ≡ bare l → bare r' ≡ bare r → bare (made l' r') ≡ bare (make l r)

abbrev OperatorMoves : Operator → Type 0
OperatorMoves op = (at to : ℕ) (k : Tok) (make : Make) → op (token_at at k) make → (made : Make) × op (token_at to k) made × MakesAlike make made

joining_moves : (o : Join) → OperatorMoves (Joining o)
joining_moves o at to k make (joining a) = (joined to o, joining to, λ l r l' r' h g. ap₂ (joined 0 o) h g)

comparing_moves : OperatorMoves Comparing
comparing_moves at to k make (comparing a c) = (compared to c, comparing to c, λ l r l' r' h g. ap₂ (compared 0 c) h g)

-- the two sides of an operator
data Sides (op : Operator) (L R : Phrases) (t : Tree) : List Token → Type 0 where
  sides : {l r : Tree} {ls rs : List Token} {u : Token} {make : Make} → L l ls → op u make → R r rs → bare (make l r) ≡ bare t
      → Sides op L R t (ls ++ (u ∷ rs))

module _ {op : Operator} (moves : OperatorMoves op) where
  sides_moved : {L R : Phrases} (l r : Tree) (ls rs us : List Token) (u : Token) (make : Make) → Anywhere L l ls → op u make → Anywhere R r rs
      → Parts ls (u ∷ rs) us → Sides op L R (make l r) us
  sides_moved l r ls rs us u make left o right (parts {vs = vs} a (next {k = k} {us = ws} at to b)) =
      let (l', h, e) = left vs a in
      let (r', g, f) = right ws b in
      let (made, o', alike) = moves at to k make o in
      sides h o' g (alike l r l' r' e f)

  module _ {S : Phrases} (below : Moves S) where
    one_again : {t : Tree} {us : List Token} → Sides op S S t us → Again (Once op S) t us
    one_again (sides {l = l} {r = r} {make = make} h o g e) = (make l r, one_of h o g, e)

    once_moves : Moves (Once op S)
    once_moves t ts (none_of h) us m = let (r, g, e) = below t ts h us m in (r, none_of g, e)
    once_moves t ts (one_of {l = l} {r = r} {ls = ls} {rs = rs} {u = u} {make = make} h o g) us m =
        one_again (sides_moved l r ls rs us u make (below l ls h) o (below r rs g) (split ls (u ∷ rs) us m))

    further_again : {t : Tree} {us : List Token} → Sides op (Chain op S) S t us → Again (Chain op S) t us
    further_again (sides {l = l} {r = r} {make = make} h o g e) = (make l r, further h o g, e)

    chain_moves : Moves (Chain op S)
    chain_moves t ts (first h) us m = let (r, g, e) = below t ts h us m in (r, first g, e)
    chain_moves t ts (further {l = l} {r = r} {ls = ls} {rs = rs} {u = u} {make = make} h o g) us m =
        further_again (sides_moved l r ls rs us u make (λ vs a. chain_moves l ls h vs a) o (below r rs g) (split ls (u ∷ rs) us m))

    trailing_again : (t : Tree) (ts us : List Token) (u : Token) (make : Make) → Anywhere (Chain op S) t ts → op u make → Parts ts (u ∷ []) us
        → Again (Trailing op S) t us
    trailing_again t ts us u make chain o (parts {vs = vs} a (next {k = k} at to none)) =
        let (r, g, e) = chain vs a in
        (r, trailing g (moves at to k make o).1, e)

    trailing_moves : Moves (Trailing op S)
    trailing_moves t ts (without h) us m = let (r, g, e) = chain_moves t ts h us m in (r, without g, e)
    trailing_moves t ts (trailing {ts = vs} {u = u} {make = make} h o) us m =
        trailing_again t vs us u make (chain_moves t vs h) o (split vs (u ∷ []) us m)

module _ (read : Reader) {Inner Outer : Phrases} (inner : Moves Inner) (outer : Moves Outer) where
  enclosed_again : (t : Tree) (ts us : List Token) (to close : ℕ) → Anywhere Outer t ts → Parts ts (sign_at close closing ∷ []) us
      → Again (Operand read Inner Outer) t (sign_at to opening ∷ us)
  enclosed_again t ts us to close held (parts {vs = vs} a (next c x none)) = let (r, g, e) = held vs a in (r, a_parenthesis to x g, e)

  operand_moves : Moves (Operand read Inner Outer)
  operand_moves t ts (a_true at) us (next a to none) = (truth to true, a_true to, refl)
  operand_moves t ts (a_false at) us (next a to none) = (truth to false, a_false to, refl)
  operand_moves t ts (a_numeral at n) us (next a to none) = (number to n, a_numeral to n, refl)
  operand_moves t ts (an_address at w s a b c q n scheme found) us (next d to (next e x (next f y (next g z none)))) =
      (number to (plain n), an_address to w s x y z q n scheme found, refl)
  operand_moves t ts (a_key at w name) us (next a to none) = (key to w, a_key to w name, refl)
  operand_moves t ts (a_field at w a b f name undotted) us (next c to (next d x (next e y none))) =
      (field to w y f, a_field to w x y f name undotted, refl)
  operand_moves t ts (an_attribute at b f undotted) us (next a to (next c x none)) = (attribute to x f, an_attribute to x f undotted, refl)
  operand_moves t ts (a_prefixed {t = r} {ts = rs} at o h) us (next {us = vs} a to m) =
      let (q, g, e) = inner r rs h vs m in
      (prefixed to o q, a_prefixed to o g, ap (prefixed 0 o) e)
  operand_moves t ts (a_parenthesis {ts = rs} at b h) us (next {us = vs} a to m) =
      enclosed_again t rs vs to b (outer t rs h) (split rs (sign_at b closing ∷ []) vs m)

implication_moves : {S : Phrases} → Moves S → Moves (Implication S)
implication_moves below =
    once_moves (joining_moves implies)
    (chain_moves (joining_moves or_else) (chain_moves (joining_moves and_also) (once_moves comparing_moves below)))

prefixed_moves : (read : Reader) (levels : ℕ) → Moves (Prefixed read levels)
unfolding Prefixed
prefixed_moves read zero = operand_moves read (λ t ts h. absurd h) (λ t ts h. absurd h)
prefixed_moves read (suc levels) =
    let below = prefixed_moves read levels in
    operand_moves read below (chain_moves (joining_moves sequel) (implication_moves below))

pub valid_moves : (t : Tree) (ts us : List Token) → Valid t ts → toks_of us ≡ toks_of ts → (r : Tree) × Valid r us × (bare r ≡ bare t)
valid_moves t ts us h e =
    trailing_moves (joining_moves sequel) (implication_moves (prefixed_moves address most_levels)) t ts h us (moved ts us e)
