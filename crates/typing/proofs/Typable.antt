-- What is known of a tree that has a type: its operands have types too, "-" has its operand's, and any other operator's is bool.
use Prim.Native.Nat.{ℕ}
use mathlib.Core.Path.{◌≡◌, refl, sym, ◌∙◌, ap}
use mathlib.Core.Bool.{Bool, true, false, ◌&&◌, false≢true}
use mathlib.Core.List.{List}
use Rattle.paper.specs.Answers.{ok, ◌>>=◌}
use Rattle.paper.specs.Tokens.{Prefix, not_sign, minus_sign}
use Rattle.paper.specs.Keys.{Key}
use Rattle.paper.specs.Grammar.{Tree, prefixed}
use Rattle.paper.specs.Types.{Ty, bool, same_ty, when, is_number, compares, prefix_type, comparison_type, bits_kept, operator_type, type_of}
use Rattle.paper.proofs.Stages.{never_ok, ok_same, bind_ok}
use Rattle.trees.specs.declared.node.Operator.{Operator}
use Rattle.trees.specs.declared.node.Operator.TheVariants.{Joins, Compares}
use Rattle.trees.specs.declared.node.Node.TheVariants.{Before}
use Rattle.trees.specs.declared.node.Prefix as N
use Rattle.trees.specs.declared.node.Prefix.TheVariants.{Not, Minus}
use Rattle.trees.specs.Standing.{operator_on, prefix_meant, comparison_meant}
use Rattle.typing.specs.Says.{operator_made, operator_says, is_minus}
use Rattle.typing.proofs.Walked.{between}

-- a test that passes gives what it guards
pub passed : (at : ℕ) (t : Bool) (x a : Ty) → operator_type at (when t x) ≡ ok a → (t ≡ true) × (x ≡ a)
passed at true x a e = (refl, ok_same x a e)
passed at false x a e = absurd (never_ok e)

module _ (ks : List Key) (at : ℕ) (a : Ty) where
  pub operand_typed : (o : Prefix) (t : Tree) → type_of ks (prefixed at o t) ≡ ok a → (b : Ty) × (type_of ks t ≡ ok b) × (operator_type at (prefix_type o b) ≡ ok a)
  unfolding type_of
  operand_typed o t e = bind_ok (type_of ks t) (λ x. operator_type at (prefix_type o x)) a e

  pub minus_typed : (t : Tree) → type_of ks (prefixed at minus_sign t) ≡ ok a → type_of ks t ≡ ok a
  minus_typed t e =
      let (b, typed, made) = operand_typed minus_sign t e in
      typed ∙ ap ok (passed at (is_number b) b a made).1

  not_typed : (t : Tree) → type_of ks (prefixed at not_sign t) ≡ ok a → bool ≡ a
  not_typed t e =
      let (b, typed, made) = operand_typed not_sign t e in
      (passed at (same_ty b bool) bool a made).1

  -- a prefix that is no "-"
  pub not_bool : (o : N.Prefix) (t : Tree) → is_minus (Before o) ≡ false → type_of ks (prefixed at (prefix_meant o) t) ≡ ok a → bool ≡ a
  not_bool Not t h e = not_typed t e
  not_bool Minus t h e = absurd (false≢true (sym h))

  -- a comparison that has a type has the one that its operands' types make
  suited : (o : Operator) (l r : Tree) (b c : Ty) → operator_says at o l r b c ≡ ok a → operator_type at (operator_made o b c) ≡ ok a
  suited (Joins o) l r b c e = e
  suited (Compares o) l r b c e =
      let (t, typed, rest) = bind_ok (operator_type at (comparison_type (comparison_meant o) b c)) (λ t. bits_kept l c >>= λ _. bits_kept r b >>= λ _. ok t) a e in
      let (_, _, right) = bind_ok (bits_kept l c) (λ _. bits_kept r b >>= λ _. ok t) a rest in
      let (_, _, same) = bind_ok (bits_kept r b) (λ _. ok t) a right in
      typed ∙ same

  -- both operands, and what the operator makes of their types
  pub operands_typed : (o : Operator) (l r : Tree) → type_of ks (operator_on at o l r) ≡ ok a
      → (b c : Ty) × (type_of ks l ≡ ok b) × (type_of ks r ≡ ok c) × (operator_type at (operator_made o b c) ≡ ok a)
  operands_typed o l r e =
      let (b, left, rest) = bind_ok (type_of ks l) (λ x. type_of ks r >>= λ y. operator_says at o l r x y) a (between ks at o l r ∙ e) in
      let (c, right, says) = bind_ok (type_of ks r) (λ y. operator_says at o l r b y) a rest in
      (b, c, left, right, suited o l r b c says)

  makes_bool : (o : Operator) (b c : Ty) → operator_type at (operator_made o b c) ≡ ok a → bool ≡ a
  makes_bool (Joins o) b c e = (passed at (same_ty b bool && same_ty c bool) bool a e).1
  makes_bool (Compares o) b c e = (passed at (compares (comparison_meant o) b c) bool a e).1

  pub operator_typed : (o : Operator) (l r : Tree) → type_of ks (operator_on at o l r) ≡ ok a → bool ≡ a
  operator_typed o l r e =
      let (b, c, left, right, made) = operands_typed o l r e in
      makes_bool o b c made
