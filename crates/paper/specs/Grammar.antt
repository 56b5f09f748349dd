-- 01, "Tokens and grammar", second paragraph; refusals 8, 9 and 10.
-- "Loosest to tightest: ";" left, "->" at most once, "||" left, "&&" left, one comparison at most, prefix "!" and "-", atoms. An
-- atom is true, false, a numeral, an address, a key, a key with "::" and an undotted word, "::" and an undotted word, or a
-- parenthesis, inside which the whole ladder starts again. "ipv4", "ipv6" and "mac" begin an address only before "(", else they
-- are keys. After "::" any undotted word is a name, "true" included. One trailing ";" is allowed, at top level only. A level is
-- opened by each prefix operator and each parenthesis (not an address's); 64 may be open."
--
-- Here is how tokens are read. What they are read as stands in Sentences, as a grammar that knows nothing of reading; its
-- `ParsedIsRight` says that this stage answers what the grammar says and nothing else, refusals and their places included.
use Rattle.std.specs.Prelude.{ℕ, zero, suc, ◌+◌, Bool, true, false, cond, List, [], ◌∷◌, length, eqb}
use Rattle.std.proofs.Math.Option.{Option, none, some}
use Rattle.paper.specs.Answers.{Answer, ok, refused, in_text}
use Rattle.paper.specs.Tokens.{bytes, same_bytes, undotted, Literal, plain, Prefix, Join, sequel, implies, or_else, and_also, Comparison, Sign, join, comparison, prefix, opening, closing, colons, Tok, word, numeral, string, sign, Token}
use Rattle.paper.specs.Addresses.{Scheme, scheme_of, address}

-- "Parentheses make no node; a node's place is its operator ("::" counts as none here and in a print), else its first token":
-- each node's first number is its place. A field and an attribute have a second, that of the name after "::".
pub data Tree : Type 0 where
  truth : ℕ → Bool → Tree
  number : ℕ → Literal → Tree
  key : ℕ → List ℕ → Tree
  field : ℕ → List ℕ → ℕ → List ℕ → Tree
  attribute : ℕ → ℕ → List ℕ → Tree
  prefixed : ℕ → Prefix → Tree → Tree
  joined : ℕ → Join → Tree → Tree → Tree
  compared : ℕ → Comparison → Tree → Tree → Tree

abbrev pub place_of : Tree → ℕ
place_of (truth at b) = at
place_of (number at n) = at
place_of (key at w) = at
place_of (field at w to f) = at
place_of (attribute at to f) = at
place_of (prefixed at o t) = at
place_of (joined at o l r) = at
place_of (compared at o l r) = at

abbrev pub nodes : Tree → ℕ
nodes (truth at b) = 1
nodes (number at n) = 1
nodes (key at w) = 1
nodes (field at w to f) = 1
nodes (attribute at to f) = 1
nodes (prefixed at o t) = nodes t + 1
nodes (joined at o l r) = nodes l + nodes r + 1
nodes (compared at o l r) = nodes l + nodes r + 1

-- what a level of the ladder makes of the tokens before it: a tree or nothing, with the tokens that are left; or the offset of
-- an opening token for which no level is left (9), or of a bad address string (10). Stuck, the next token is one that no
-- sentence could continue with (8).
pub data End : Type 0 where
  got : Tree → End
  stuck : End

pub data Out : Type 0 where
  ends : End → List Token → Out
  deep bad : ℕ → Out

infixl 1 ◌>>>◌
abbrev pub ◌>>>◌ : Out → (Tree → List Token → Out) → Out
ends (got t) us >>> f = f t us
ends stuck us >>> f = ends stuck us
deep at >>> f = deep at
bad at >>> f = bad at

abbrev pub Parser : Type 0
Parser = List Token → Out

-- operators: what a token makes of the trees on its two sides

abbrev pub Make : Type 0
Make = Tree → Tree → Tree

abbrev pub join_no : Join → ℕ
join_no sequel = 0
join_no implies = 1
join_no or_else = 2
join_no and_also = 3

abbrev pub sign_joins : Join → ℕ → Sign → Option Make
sign_joins o at (join j) = cond (eqb (join_no j) (join_no o)) (some (joined at j)) none
sign_joins o at (comparison c) = none
sign_joins o at (prefix p) = none
sign_joins o at opening = none
sign_joins o at closing = none
sign_joins o at colons = none

abbrev pub sign_compares : ℕ → Sign → Option Make
sign_compares at (join j) = none
sign_compares at (comparison c) = some (compared at c)
sign_compares at (prefix p) = none
sign_compares at opening = none
sign_compares at closing = none
sign_compares at colons = none

abbrev pub by_sign : Tok → (Sign → Option Make) → Option Make
by_sign (word w) f = none
by_sign (numeral n) f = none
by_sign (string q) f = none
by_sign (sign g) f = f g

abbrev pub joins : Join → Token → Option Make
joins o u = by_sign u.tok (sign_joins o u.at)

abbrev pub compares : Token → Option Make
compares u = by_sign u.tok (sign_compares u.at)

-- p, or p operator p

abbrev pub once_with : Parser → Tree → Token → List Token → Option Make → Out
once_with p t u us none = ends (got t) (u ∷ us)
once_with p t u us (some make) = p us >>> λ r vs. ends (got (make t r)) vs

abbrev pub once_more : (Token → Option Make) → Parser → Tree → List Token → Out
once_more op p t [] = ends (got t) []
once_more op p t (u ∷ us) = once_with p t u us (op u)

unfoldable pub once : (Token → Option Make) → Parser → Parser
once op p ts = p ts >>> once_more op p

-- p, p operator p, p operator p operator p, .., joined from the left; `last` where the text may also end after an operator.
-- At each turn p takes a token, so the tokens that are left bound the turns.

abbrev pub after_operator : Bool → Tree → List Token → Out → Out
after_operator false t us o = o
after_operator true t [] o = ends (got t) []
after_operator true t (u ∷ us) o = o

abbrev pub more_with : Tree → Token → List Token → Option Make → (Make → Out) → Out
more_with t u us none go = ends (got t) (u ∷ us)
more_with t u us (some make) go = go make

unfoldable pub more : Bool → (Token → Option Make) → Parser → ℕ → Tree → List Token → Out
more last op p zero t us = ends (got t) us
more last op p (suc n) t [] = ends (got t) []
more last op p (suc n) t (u ∷ us) =
    more_with t u us (op u) (λ make. after_operator last t us (p us >>> λ r vs. more last op p n (make t r) vs))

unfoldable pub chain : Bool → (Token → Option Make) → Parser → Parser
unfolding more
chain last op p ts = p ts >>> λ t us. more last op p (length us) t us

-- the ladder from "->" down to what p reads, and from ";"

unfoldable pub implication : Parser → Parser
unfolding once chain
implication p = once (joins implies) (chain false (joins or_else) (chain false (joins and_also) (once compares p)))

unfoldable pub sequence : Bool → Parser → Parser
unfolding chain implication
sequence last p = chain last (joins sequel) (implication p)

-- atoms

-- the signs of which atoms are made, by number; the other signs are operators
abbrev pub atom_sign : Sign → ℕ
atom_sign (join j) = 0
atom_sign (comparison c) = 0
atom_sign (prefix p) = 0
atom_sign opening = 1
atom_sign closing = 2
atom_sign colons = 3

-- whether a token is this one of them
abbrev pub is_sign : Sign → Tok → Bool
is_sign g (word w) = false
is_sign g (numeral n) = false
is_sign g (string q) = false
is_sign g (sign h) = eqb (atom_sign h) (atom_sign g)

-- a tree that ")" must follow
abbrev pub closed : Tree → List Token → Out
closed t [] = ends stuck []
closed t (u ∷ us) = cond (is_sign closing u.tok) (ends (got t) us) (ends stuck (u ∷ us))

abbrev pub name_at : Tok → (ℕ → List ℕ → Tree) → Token → List Token → Out
name_at (word w) make u us = cond (undotted w) (ends (got (make u.at w)) us) (ends stuck (u ∷ us))
name_at (numeral n) make u us = ends stuck (u ∷ us)
name_at (string q) make u us = ends stuck (u ∷ us)
name_at (sign g) make u us = ends stuck (u ∷ us)

-- after "::" an undotted word
abbrev pub named : (ℕ → List ℕ → Tree) → List Token → Out
named make [] = ends stuck []
named make (u ∷ us) = name_at u.tok make u us

-- what an address string is read as
abbrev pub Reader : Type 0
Reader = Scheme → List ℕ → Option ℕ

abbrev pub address_with : Option ℕ → ℕ → Token → List Token → Out
address_with none at u us = bad u.at
address_with (some n) at u us = closed (number at (plain n)) us

abbrev pub address_at : Reader → Scheme → ℕ → Tok → Token → List Token → Out
address_at read s at (word w) u us = ends stuck (u ∷ us)
address_at read s at (numeral n) u us = ends stuck (u ∷ us)
address_at read s at (string q) u us = address_with (read s q) at u us
address_at read s at (sign g) u us = ends stuck (u ∷ us)

-- after the word and "(" of an address: its string and ")"
abbrev pub addressed : Reader → Scheme → ℕ → List Token → Out
addressed read s at [] = ends stuck []
addressed read s at (u ∷ us) = address_at read s at u.tok u us

-- "begin an address only before "(", else they are keys"
abbrev pub opens_address : Reader → Option Scheme → ℕ → List ℕ → Token → List Token → Out
opens_address read none at w u us = ends (got (key at w)) (u ∷ us)
opens_address read (some s) at w u us = addressed read s at us

abbrev pub keyed : Reader → ℕ → List ℕ → List Token → Out
keyed read at w [] = ends (got (key at w)) []
keyed read at w (u ∷ us) =
    cond (is_sign colons u.tok) (named (field at w) us)
    (cond (is_sign opening u.tok) (opens_address read (scheme_of w) at w u us) (ends (got (key at w)) (u ∷ us)))

abbrev pub worded : Reader → ℕ → List ℕ → List Token → Out
worded read at w us =
    cond (same_bytes w (bytes "true")) (ends (got (truth at true)) us)
    (cond (same_bytes w (bytes "false")) (ends (got (truth at false)) us) (keyed read at w us))

-- a prefix operator or an atom, where `inner` reads what a prefix operator stands before, and `outer` what a parenthesis holds;
-- both are told the offset of the token that opens their level

abbrev pub signed : (ℕ → Parser) → (ℕ → Parser) → Sign → Token → List Token → Out
signed inner outer (join j) u us = ends stuck (u ∷ us)
signed inner outer (comparison c) u us = ends stuck (u ∷ us)
signed inner outer (prefix o) u us = inner u.at us >>> λ t vs. ends (got (prefixed u.at o t)) vs
signed inner outer opening u us = outer u.at us >>> closed
signed inner outer closing u us = ends stuck (u ∷ us)
signed inner outer colons u us = named (attribute u.at) us

abbrev pub operand_at : Reader → (ℕ → Parser) → (ℕ → Parser) → Tok → Token → List Token → Out
operand_at read inner outer (word w) u us = worded read u.at w us
operand_at read inner outer (numeral n) u us = ends (got (number u.at n)) us
operand_at read inner outer (string q) u us = ends stuck (u ∷ us)
operand_at read inner outer (sign g) u us = signed inner outer g u us

unfoldable pub operand : Reader → (ℕ → Parser) → (ℕ → Parser) → Parser
operand read inner outer [] = ends stuck []
operand read inner outer (u ∷ us) = operand_at read inner outer u.tok u us

-- with the number of levels that may still be opened
unfoldable pub prefixes : Reader → ℕ → Parser
unfolding operand sequence
prefixes read zero = operand read (λ at us. deep at) (λ at us. deep at)
prefixes read (suc levels) = operand read (λ at. prefixes read levels) (λ at. sequence false (prefixes read levels))

-- the whole text is one sequence

abbrev pub finished : Tree → List Token → Out
finished t [] = ends (got t) []
finished t (u ∷ us) = ends stuck (u ∷ us)

unfoldable pub whole : Reader → ℕ → Parser
unfolding sequence prefixes
whole read levels ts = sequence true (prefixes read levels) ts >>> finished

abbrev pub most_levels : ℕ
most_levels = 64

-- 8: "first token that no sentence could continue with, or text ends too soon": the token, or the text's length
abbrev pub outcome : ℕ → Out → Answer Tree
outcome size (ends (got t) us) = ok t
outcome size (ends stuck []) = refused 8 in_text size
outcome size (ends stuck (u ∷ us)) = refused 8 in_text u.at
outcome size (deep at) = refused 9 in_text at
outcome size (bad at) = refused 10 in_text at

-- of a text of a given length
unfoldable pub parsed : ℕ → List Token → Answer Tree
unfolding whole address
parsed size ts = outcome size (whole address most_levels ts)
