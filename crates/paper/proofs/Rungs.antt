-- A tree on a rung of the ladder stands, with the parentheses that it needs, where that rung or a looser one is asked for.
use Prim.Native.Nat.{ℕ, zero, suc, ◌+◌}
use native.Mathlib.Omega.{arith}
use mathlib.Core.Path.{◌≡◌, refl, subst}
use mathlib.Core.List.{List, [], ◌∷◌, ◌++◌}
use Rattle.paper.specs.Tokens.{Join, sequel, implies, or_else, and_also, Comparison, join, comparison, opening, closing, Token}
use Rattle.paper.specs.Addresses.{address}
use Rattle.paper.specs.Grammar.{Tree, joined, compared}
use Rattle.paper.specs.Sentences.{Phrases, sign_at, Joining, joining, Comparing, comparing, Once, none_of, one_of, Chain, first, further, a_parenthesis, Implication, Sequence, Prefixed}
use Rattle.paper.specs.Print.{rung_of, left_of, right_of}

-- the phrases of each rung, with at most so many levels
abbrev pub Rung : ℕ → ℕ → Phrases
Rung l zero = Sequence (Prefixed address l)
Rung l (suc zero) = Implication (Prefixed address l)
Rung l (suc (suc zero)) = Chain (Joining or_else) (Chain (Joining and_also) (Once Comparing (Prefixed address l)))
Rung l (suc (suc (suc zero))) = Chain (Joining and_also) (Once Comparing (Prefixed address l))
Rung l (suc (suc (suc (suc zero)))) = Once Comparing (Prefixed address l)
Rung l (suc (suc (suc (suc (suc k))))) = Prefixed address l

-- one rung down
step : (l k : ℕ) (t : Tree) (ts : List Token) → Rung l (suc k) t ts → Rung l k t ts
step l zero t ts h = first h
step l (suc zero) t ts h = none_of h
step l (suc (suc zero)) t ts h = first h
step l (suc (suc (suc zero))) t ts h = first h
step l (suc (suc (suc (suc zero)))) t ts h = none_of h
step l (suc (suc (suc (suc (suc k))))) t ts h = h

pub looser_rung : (d j l k : ℕ) (t : Tree) (ts : List Token) → k + d ≡ j → Rung l j t ts → Rung l k t ts
looser_rung zero j l k t ts e h = subst (λ n. Rung l n t ts) (let f : j ≡ k = omega arith in f) h
looser_rung (suc d) j l k t ts e h =
    let f : j ≡ suc (k + d) = omega arith in
    looser_rung d (k + d) l k t ts refl (step l (k + d) t ts (subst (λ n. Rung l n t ts) f h))

-- what an operator makes stands on its rung

pub join_rung : (l : ℕ) (o : Join) (at : ℕ) (t r : Tree) (ts rs : List Token) → Rung l (left_of o) t ts → Rung l (right_of o) r rs
    → Rung l (rung_of o) (joined at o t r) (ts ++ (sign_at at (join o) ∷ rs))
join_rung l sequel at t r ts rs h g = further h (joining at) g
join_rung l implies at t r ts rs h g = one_of h (joining at) g
join_rung l or_else at t r ts rs h g = further h (joining at) g
join_rung l and_also at t r ts rs h g = further h (joining at) g

pub comparison_rung : (l : ℕ) (c : Comparison) (at : ℕ) (t r : Tree) (ts rs : List Token) → Rung l 5 t ts → Rung l 5 r rs
    → Rung l 4 (compared at c t r) (ts ++ (sign_at at (comparison c) ∷ rs))
comparison_rung l c at t r ts rs h g = one_of h (comparing at c) g

pub enclosed_rung : (l at to : ℕ) (t : Tree) (ts : List Token) → Rung l 0 t ts
    → Rung (suc l) 5 t (sign_at at opening ∷ (ts ++ (sign_at to closing ∷ [])))
unfolding Prefixed
enclosed_rung l at to t ts h = a_parenthesis at to h
