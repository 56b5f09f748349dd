-- The operators of the ladder: which tokens are one, as the parsers test it and as the grammar says it.
use Prim.Native.Nat.{ℕ, zero, suc}
use mathlib.Core.Path.{◌≡◌, refl, sym, ap, ◌∙◌, subst}
use mathlib.Core.Bool.{Bool, true, false, cond}
use mathlib.Core.Option.{Option, none, some, some-injective, none-ne-some}
use lib.Dec.{eqb}
use borrow.Author.Tests.{eqb-true, eq-eqb}
use Rattle.paper.specs.Tokens.{Join, sequel, implies, or_else, and_also, join, comparison, prefix, opening, closing, colons, Tok, word, numeral, string, sign, Token}
use Rattle.paper.specs.Grammar.{Make, joined, join_no, joins, compares}
use Rattle.paper.specs.Sentences.{token_at, sign_at, Operator, Joining, joining, Comparing, comparing}

-- a test of tokens finds exactly the tokens of an operator
pub record Finds (fn : Token → Option Make) (op : Operator) : Type 0 where
  pub said : (u : Token) (make : Make) → fn u ≡ some make → op u make
  pub heard : (u : Token) (make : Make) → op u make → fn u ≡ some make

join_of : ℕ → Join
join_of zero = sequel
join_of (suc zero) = implies
join_of (suc (suc zero)) = or_else
join_of (suc (suc (suc n))) = and_also

join_of_no : (o : Join) → join_of (join_no o) ≡ o
unfolding join_of
join_of_no sequel = refl
join_of_no implies = refl
join_of_no or_else = refl
join_of_no and_also = refl

same_join : (i j : Join) → eqb (join_no i) (join_no j) ≡ true → i ≡ j
same_join i j h = sym (join_of_no i) ∙ ap join_of (eqb-true _ _ h) ∙ join_of_no j

no_make : {A : Type 0} (make : Make) → none ≡ some make → A
no_make make h = absurd (none-ne-some make h)

joining_here : (i j : Join) (at : ℕ) (make : Make) (b : Bool) → eqb (join_no i) (join_no j) ≡ b
    → cond b (some (joined at i)) none ≡ some make → Joining j (sign_at at (join i)) make
joining_here i j at make true e h =
    subst (λ (m : Make). Joining j (sign_at at (join i)) m) (some-injective _ _ h) (rw (same_join i j e) (joining at))
joining_here i j at make false e h = no_make make h

joins_said : (j : Join) (at : ℕ) (x : Tok) (make : Make) → joins j (token_at at x) ≡ some make → Joining j (token_at at x) make
joins_said j at (word w) make h = no_make make h
joins_said j at (numeral n) make h = no_make make h
joins_said j at (string q) make h = no_make make h
joins_said j at (sign (join i)) make h = joining_here i j at make (eqb (join_no i) (join_no j)) refl h
joins_said j at (sign (comparison c)) make h = no_make make h
joins_said j at (sign (prefix o)) make h = no_make make h
joins_said j at (sign opening) make h = no_make make h
joins_said j at (sign closing) make h = no_make make h
joins_said j at (sign colons) make h = no_make make h

joins_heard : (j : Join) (u : Token) (make : Make) → Joining j u make → joins j u ≡ some make
joins_heard j u make (joining at) = rw (eq-eqb (join_no j) (join_no j) refl)

pub joins_finds : (j : Join) → Finds (joins j) (Joining j)
joins_finds j = record { said = λ u make h. joins_said j u.at u.tok make h; heard = joins_heard j }

compares_said : (at : ℕ) (x : Tok) (make : Make) → compares (token_at at x) ≡ some make → Comparing (token_at at x) make
compares_said at (word w) make h = no_make make h
compares_said at (numeral n) make h = no_make make h
compares_said at (string q) make h = no_make make h
compares_said at (sign (join i)) make h = no_make make h
compares_said at (sign (comparison c)) make h =
    subst (λ (m : Make). Comparing (sign_at at (comparison c)) m) (some-injective _ _ h) (comparing at c)
compares_said at (sign (prefix o)) make h = no_make make h
compares_said at (sign opening) make h = no_make make h
compares_said at (sign closing) make h = no_make make h
compares_said at (sign colons) make h = no_make make h

compares_heard : (u : Token) (make : Make) → Comparing u make → compares u ≡ some make
compares_heard u make (comparing at c) = refl

pub compares_finds : Finds compares Comparing
compares_finds = record { said = λ u make h. compares_said u.at u.tok make h; heard = compares_heard }
