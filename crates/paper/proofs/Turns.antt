-- The turns of a chain without their count: a parser that leaves no more tokens than it was given never runs out of turns, so
-- that each turn may be taken with all the turns that its own tokens allow.
use Prim.Native.Nat.{ℕ, zero, suc, ◌≤◌}
use mathlib.Core.Path.{◌≡◌, refl, ap, fun_ext}
use mathlib.Core.Bool.{Bool}
use mathlib.Core.Option.{Option}
use mathlib.Core.List.{List, [], ◌∷◌}
use lib.ListN.{length}
use native.Mathlib.Nat.{le_refl}
use native.Mathlib.Omega.{arith}
use Rattle.paper.specs.Tokens.{Token}
use Rattle.paper.specs.Grammar.{Tree, got, stuck, Out, ends, deep, bad, ◌>>>◌, Parser, Make, after_operator, more_with, more, chain}

-- a tree comes with at most so many tokens left
abbrev pub Leaves : ℕ → Out → Type 0
Leaves n (ends (got t) us) = length us ≤ n
Leaves n (ends stuck us) = Unit {0}
Leaves n (deep at) = Unit {0}
Leaves n (bad at) = Unit {0}

abbrev pub Shrinks : Parser → Type 0
Shrinks p = (ts : List Token) → Leaves (length ts) (p ts)

then_same : (n : ℕ) (f g : Tree → List Token → Out) (o : Out) → Leaves n o
    → ((t : Tree) (us : List Token) → length us ≤ n → f t us ≡ g t us) → (o >>> f) ≡ (o >>> g)
then_same n f g (ends (got t) us) h same = same t us h
then_same n f g (ends stuck us) h same = refl
then_same n f g (deep at) h same = refl
then_same n f g (bad at) h same = refl

module _ (last : Bool) (op : Token → Option Make) (p : Parser) where
  -- all the turns that are left
  unfoldable pub turns : Tree → Parser
  unfolding more
  turns t us = more last op p (length us) t us

  pub chain_turns : (ts : List Token) → chain last op p ts ≡ (p ts >>> turns)
  unfolding chain more turns
  chain_turns ts = refl

  pub turns_end : (t : Tree) → turns t [] ≡ ends (got t) []
  unfolding turns more
  turns_end t = refl

  module _ (shrinks : Shrinks p) where
    enough : (n m : ℕ) (t : Tree) (us : List Token) → length us ≤ n → length us ≤ m
        → more last op p n t us ≡ more last op p m t us
    unfolding more
    enough zero zero t [] h k = refl
    enough zero (suc m) t [] h k = refl
    enough (suc n) zero t [] h k = refl
    enough (suc n) (suc m) t [] h k = refl
    enough zero m t (u ∷ us) h k = absurd (omega arith)
    enough (suc n) zero t (u ∷ us) h k = absurd (omega arith)
    enough (suc n) (suc m) t (u ∷ us) h k =
        ap (more_with t u us (op u))
        (fun_ext λ make. ap (after_operator last t us)
        (then_same (length us) (λ r vs. more last op p n (make t r) vs) (λ r vs. more last op p m (make t r) vs) (p us) (shrinks us)
        (λ r vs l. enough n m (make t r) vs (omega arith) (omega arith))))

    pub turns_next : (t : Tree) (u : Token) (us : List Token)
        → turns t (u ∷ us) ≡ more_with t u us (op u) (λ make. after_operator last t us (p us >>> λ r. turns (make t r)))
    unfolding turns more
    turns_next t u us =
        ap (more_with t u us (op u))
        (fun_ext λ make. ap (after_operator last t us)
        (then_same (length us) (λ r vs. more last op p (length us) (make t r) vs) (λ r. turns (make t r)) (p us) (shrinks us)
        (λ r vs l. enough (length us) (length vs) (make t r) vs l (le_refl _))))
