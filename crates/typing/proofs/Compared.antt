-- What is said of a comparison between two operands, either of which loses bits beside the other's type.
use Prim.Native.Nat.{ℕ}
use mathlib.Core.Path.{◌≡◌, sym, ◌∙◌, ap}
use mathlib.Core.Bool.{true, false}
use Rattle.paper.specs.Answers.{Answer, ok, refused, in_text}
use Rattle.paper.specs.Grammar.{Tree, place_of}
use Rattle.paper.specs.Types.{Ty, keeps_bits, operator_type}
use Rattle.trees.specs.declared.node.Comparison.{Comparison}
use Rattle.trees.specs.declared.node.Operator.{Operator}
use Rattle.trees.specs.declared.node.Operator.TheVariants.{Compares}
use Rattle.typing.specs.Says.{operator_made, operator_says}

module _ (at : ℕ) (l r : Tree) (a b : Ty) where
  abbrev made : Operator → Answer Ty
  made o = operator_type at (operator_made o a b)

  -- a comparison that takes the types
  module _ {o : Operator} (c : Comparison) (compares : o ≡ Compares c) (t : Ty) (suited : made o ≡ ok t) where
    takes : made (Compares c) ≡ ok t
    takes = ap made (sym compares) ∙ suited

    pub left_lost : keeps_bits l b ≡ false → refused 23 in_text (place_of l) ≡ operator_says at o l r a b
    left_lost h = rw (compares, takes, h)

    pub right_lost : keeps_bits l b ≡ true → keeps_bits r a ≡ false → refused 23 in_text (place_of r) ≡ operator_says at o l r a b
    right_lost h k = rw (compares, takes, h, k)
