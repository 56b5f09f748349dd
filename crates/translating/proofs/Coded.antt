-- The code of a tree, from the code of its operands, their conversions, its own and a join's skip.
use Prim.Native.Nat.{ℕ, ◌+◌}
use native.Mathlib.Omega.{arith}
use mathlib.Core.Path.{◌≡◌, refl, ◌∙◌}
use mathlib.Core.Bool.{Bool, true, false, ◌&&◌, false≢true}
use mathlib.Core.Option.{Option, none, some}
use mathlib.Core.List.{List, [], ◌∷◌, ◌++◌, append-nil, append_assoc}
use lib.ListN.{length}
use Rattle.paper.specs.Answers.{ok}
use Rattle.paper.specs.Keys.{Key, find}
use Rattle.paper.specs.Grammar.{Tree}
use Rattle.paper.specs.Types.{Ty, bool, same_ty, meet, operator_type, Field, value, mask, prefix_length, low, high, and_then, field_named, type_of}
use Rattle.paper.specs.Code.{Instruction, push_key, push_field}
use Rattle.paper.specs.Translating.{changed, pushing, code_of}
use Rattle.paper.proofs.MeetingTypes.{same_types_lem}
use Rattle.trees.specs.declared.node.Leaf.{Leaf}
use Rattle.trees.specs.declared.node.Leaf.TheVariants as L
use Rattle.trees.specs.declared.node.Join.{Join}
use Rattle.trees.specs.declared.node.Operator.{Operator}
use Rattle.trees.specs.declared.node.Operator.TheVariants.{Joins, Compares}
use Rattle.trees.specs.Standing.{spelling, leaf_on, operator_on}
use Rattle.trees.specs.Marks.{key_found, field_found, operand_on}
use Rattle.typing.specs.Says.{operator_made}
use Rattle.typing.proofs.Typable.{passed}
use Rattle.translating.specs.Own.{operand_code, operator, operator_skips}

pub both_true : (s t : Bool) → (s && t) ≡ true → (s ≡ true) × (t ≡ true)
both_true true t h = (refl, h)
both_true false t h = absurd (false≢true h)

-- a join takes two bools
pub joined_bools : (at : ℕ) (o : Join) (a b t : Ty) → operator_type at (operator_made (Joins o) a b) ≡ ok t → (a ≡ bool) × (b ≡ bool)
joined_bools at o a b t made =
    let both = both_true (same_ty a bool) (same_ty b bool) (passed at (same_ty a bool && same_ty b bool) bool t made).0 in
    (same_types_lem a bool both.0, same_types_lem b bool both.1)

module _ (ks : List Key) where
  -- a leaf, by what its names name

  key_code : (o : Option ℕ) → operand_code (key_found o) ≡ pushing (and_then o (λ k. some (push_key k)))
  key_code none = refl
  key_code (some k) = refl

  field_code : (o : Option ℕ) (f : Option Field) → operand_code (field_found o f) ≡ pushing (and_then o (λ k. and_then f (λ g. some (push_field g k))))
  field_code none f = refl
  field_code (some k) none = refl
  field_code (some k) (some value) = refl
  field_code (some k) (some mask) = refl
  field_code (some k) (some prefix_length) = refl
  field_code (some k) (some low) = refl
  field_code (some k) (some high) = refl

  pub leaf_code : (text : List ℕ) (at : ℕ) (leaf : Leaf) → operand_code (operand_on ks text leaf) ≡ code_of ks (leaf_on text at leaf)
  unfolding code_of
  leaf_code text at (L.Truth b) = refl
  leaf_code text at (L.Number base a b c d) = refl
  leaf_code text at (L.Key w) = key_code (find ks (spelling text w))
  leaf_code text at (L.Field w f) = field_code (find ks (spelling text w)) (field_named (spelling text f))
  leaf_code text at (L.Attribute f) = refl

  -- two operands of types a and b, each with its conversion after it, and the operator; after the left operand the skip of a join
  abbrev pub between : Tree → Tree → Ty → Ty → Operator → ℕ → List Instruction
  between l r a b o over =
      code_of ks l ++ (operator_skips o over ++ (changed (some a) (meet a b) ++ code_of ks r ++ changed (some b) (meet a b) ++ (operator o ∷ [])))

  -- from the left operand to the operator
  abbrev pub way : Tree → Ty → Ty → Operator → ℕ → ℕ
  way r a b o over =
      length (operator_skips o over) + length (changed (some a) (meet a b)) + length (code_of ks r) + length (changed (some b) (meet a b))

  module _ (at : ℕ) (l r : Tree) (a b t : Ty) (left : type_of ks l ≡ ok a) (right : type_of ks r ≡ ok b) where
    -- two bools meet as they are, so that the skip passes over the right operand's code and the join
    joined : (o : Join) (over : ℕ) → a ≡ bool → b ≡ bool → over ≡ way r a b (Joins o) over
        → between l r a b (Joins o) over ≡ code_of ks (operator_on at (Joins o) l r)
    unfolding code_of
    joined o over e f reaches =
        let passes : over ≡ length (code_of ks r) + 1 = reaches ∙ rw (e, f) (omega arith) in
        rw (e, f, passes, append-nil (code_of ks r))

    pub operated_code : (o : Operator) (over : ℕ) → operator_type at (operator_made o a b) ≡ ok t → over ≡ way r a b o over
        → between l r a b o over ≡ code_of ks (operator_on at o l r)
    unfolding code_of
    operated_code (Joins o) over made reaches =
        let bools = joined_bools at o a b t made in
        joined o over bools.0 bools.1 reaches
    operated_code (Compares c) over made reaches = rw (left, right) (simp append_assoc)
