-- The sizes of a tree from those of its operands. A number over a limit stays over it, whatever is added: so it does not matter that it was
-- told as one more than the limit.
use Prim.Native.Nat.{ℕ, suc, ◌+◌, min, max}
use native.Mathlib.Omega.{arith}
use mathlib.Core.Path.{◌≡◌, refl, ◌∙◌}
use mathlib.Core.Bool.{Bool, true, false}
use Rattle.paper.specs.Tokens.{not_sign}
use Rattle.paper.specs.Grammar as G
use Rattle.paper.specs.Grammar.{Tree}
use Rattle.paper.specs.Print.{tightest, looser}
use Rattle.paper.specs.Sized.{wider, deeper, count, levels as deep}
use Rattle.trees.specs.declared.node.Operator.{Operator}
use Rattle.trees.specs.declared.node.Operator.TheVariants.{Joins, Compares}
use Rattle.trees.specs.Standing.{operator_on}
use Rattle.printing.specs.declared.signs.Rung.{Rung}
use Rattle.printing.specs.declared.signs.Rung.TheVariants as R
use Rattle.printing.specs.Writing.{rung_meant, rung_between, left_between, right_between}
use Rattle.drafting.specs.declared.sizes.Size.{Size}
use Rattle.drafting.specs.declared.sizes.Extent.{Extent}
use Rattle.drafting.specs.Sizes.{Sized, Stood}

-- at most so many are told, of n under a prefix operator, and of n and m beside each other
module _ (k n : ℕ) where
  tokens_over : (b : Bool) → min (wider b (min n k) + 1) k ≡ min (1 + wider b n) k
  tokens_over true = omega arith
  tokens_over false = omega arith

  levels_over : (b : Bool) → min (deeper b (min n k) + 1) k ≡ min (suc (deeper b n)) k
  levels_over true = omega arith
  levels_over false = omega arith

  module _ (m : ℕ) where
    tokens_beside : (a b : Bool) → min (wider a (min n k) + 1 + wider b (min m k)) k ≡ min (wider a n + 1 + wider b m) k
    tokens_beside true true = omega arith
    tokens_beside true false = omega arith
    tokens_beside false true = omega arith
    tokens_beside false false = omega arith

    levels_beside : (a b : Bool) → min (max (deeper a (min n k)) (deeper b (min m k))) k ≡ min (max (deeper a n) (deeper b m)) k
    levels_beside true true = omega arith
    levels_beside true false = omega arith
    levels_beside false true = omega arith
    levels_beside false false = omega arith

abbrev token_cap : ℕ
token_cap = 1025

abbrev level_cap : ℕ
level_cap = 65

module _ (n l : ℕ) (s : Size) {x : Extent} (stood : Stood s tightest x) (tokens : n ≡ min (x.tokens + 1) token_cap) (levels : l ≡ min (x.levels + 1) level_cap) where
  pub prefix_sized : (t : Tree) → Sized s t → Sized (record { tokens = n; levels = l; rung = R.Tightest }) (G.prefixed 0 not_sign t)
  prefix_sized t h =
      record {
        tokens = tokens ∙ rw (stood.tokens, h.rung, h.tokens) (tokens_over token_cap (count t) (looser tightest t));
        levels = levels ∙ rw (stood.levels, h.rung, h.levels) (levels_over level_cap (deep t) (looser tightest t));
        rung = refl;
      }

-- an operator between two operands, with the rungs that it asks for
module _ (s r : Size) {n l : ℕ} {x y : Extent} (o : Operator) (left : Stood s (left_between o) x) (right : Stood r (right_between o) y)
    (tokens : n ≡ min (x.tokens + 1 + y.tokens) token_cap) (levels : l ≡ min (max x.levels y.levels) level_cap) where
  tokens_of : (t u : Tree) → Sized s t → Sized r u → n ≡ min (wider (looser (left_between o) t) (count t) + 1 + wider (looser (right_between o) u) (count u)) token_cap
  tokens_of t u h g =
      tokens ∙ rw (left.tokens, right.tokens, h.rung, g.rung, h.tokens, g.tokens)
      (tokens_beside token_cap (count t) (count u) (looser (left_between o) t) (looser (right_between o) u))

  levels_of : (t u : Tree) → Sized s t → Sized r u → l ≡ min (max (deeper (looser (left_between o) t) (deep t)) (deeper (looser (right_between o) u) (deep u))) level_cap
  levels_of t u h g =
      levels ∙ rw (left.levels, right.levels, h.rung, g.rung, h.levels, g.levels)
      (levels_beside level_cap (deep t) (deep u) (looser (left_between o) t) (looser (right_between o) u))

-- the size of what the operator makes
pub operator_sized : (s r : Size) {n l : ℕ} {x y : Extent} {k : Rung} (o : Operator) → Stood s (left_between o) x → Stood r (right_between o) y
    → n ≡ min (x.tokens + 1 + y.tokens) token_cap → l ≡ min (max x.levels y.levels) level_cap → rung_meant k ≡ rung_between o
    → (t u : Tree) → Sized s t → Sized r u → Sized (record { tokens = n; levels = l; rung = k }) (operator_on 0 o t u)
operator_sized s r (Joins o) left right tokens levels at t u h g =
    record {
      tokens = tokens_of s r (Joins o) left right tokens levels t u h g;
      levels = levels_of s r (Joins o) left right tokens levels t u h g;
      rung = at;
    }
operator_sized s r (Compares c) left right tokens levels at t u h g =
    record {
      tokens = tokens_of s r (Compares c) left right tokens levels t u h g;
      levels = levels_of s r (Compares c) left right tokens levels t u h g;
      rung = at;
    }
