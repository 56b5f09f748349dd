-- The number that an operand spells, under the sign that the "-" before it give: two of them leave it as it is.
use Prim.Native.Nat.{ℕ}
use mathlib.Core.Path.{◌≡◌, refl, sym, ap}
use mathlib.Core.Bool.{Bool, true, false, not, false≢true}
use mathlib.Core.Option.{Option, none, some, map}
use lib.IntN.{ℤ, pos, neg_ℤ, neg_ℤ-neg_ℤ}
use Rattle.paper.specs.Grammar.{Tree, prefixed}
use Rattle.paper.specs.Types.{spelled, fits_in, holds_all}
use Rattle.number.specs.Values.{signed}
use Rattle.trees.specs.declared.node.Node.TheVariants.{Before}
use Rattle.trees.specs.declared.node.Prefix.{Prefix}
use Rattle.trees.specs.declared.node.Prefix.TheVariants.{Not, Minus}
use Rattle.trees.specs.declared.node.Operator.{Operator}
use Rattle.trees.specs.declared.node.Operator.TheVariants.{Joins, Compares}
use Rattle.trees.specs.Standing.{prefix_meant, operator_on}
use Rattle.typing.specs.Says.{is_minus, signed_as}

pub turned : (s : Bool) (o : Option ℤ) → signed_as s (map neg_ℤ o) ≡ signed_as (not s) o
turned true none = refl
turned true (some z) = ap some (neg_ℤ-neg_ℤ z)
turned false o = refl

pub none_held : (w : ℕ) (s : Bool) → true ≡ holds_all w (signed_as s none)
none_held w true = refl
none_held w false = refl

-- an operator that is no "-" spells none
pub other_prefix : (o : Prefix) (at : ℕ) (t : Tree) → is_minus (Before o) ≡ false → none ≡ spelled (prefixed at (prefix_meant o) t)
other_prefix Not at t h = refl
other_prefix Minus at t h = absurd (false≢true (sym h))

pub other_operator : (o : Operator) (at : ℕ) (l r : Tree) → none ≡ spelled (operator_on at o l r)
other_operator (Joins o) at l r = refl
other_operator (Compares c) at l r = refl

pub number_held : (w n : ℕ) (s : Bool) → fits_in w (signed s n) ≡ holds_all w (signed_as s (some (pos n)))
number_held w n true = refl
number_held w n false = refl
