-- What a leaf names, by its marks. A field that has a type has a name that is known, so that its key is marked.
use Prim.Native.Nat.{ℕ}
use mathlib.Core.Path.{◌≡◌, refl}
use mathlib.Core.Bool.{false}
use mathlib.Core.Option.{Option, none, some}
use mathlib.Core.List.{List}
use Rattle.paper.specs.Answers.{ok, ◌>>=◌}
use Rattle.paper.specs.Keys.{Key, find}
use Rattle.paper.specs.Types.{Ty, Field, and_then, field_named, field_type, known, named_type, type_of}
use Rattle.paper.specs.Named.{is_it, names, marked}
use Rattle.paper.proofs.Stages.{never_ok}
use Rattle.trees.specs.declared.node.Leaf.{Leaf}
use Rattle.trees.specs.declared.node.Leaf.TheVariants as L
use Rattle.trees.specs.Standing.{spelling, leaf_on}
use Rattle.trees.specs.Marks.{key_found, field_found, operand_on}
use Rattle.summarizing.specs.Sums.{operand_names, operand_marked}

key_named : (o : Option ℕ) (j : ℕ) → operand_names (key_found o) j ≡ is_it j o
key_named none j = refl
key_named (some k) j = refl

key_unmarked : (o : Option ℕ) → operand_marked (key_found o) ≡ false
key_unmarked none = refl
key_unmarked (some k) = refl

field_unmarked : (o : Option ℕ) (f : Option Field) → operand_marked (field_found o f) ≡ false
field_unmarked none f = refl
field_unmarked (some k) none = refl
field_unmarked (some k) (some f) = refl

module _ (ks : List Key) where
  field_named_lem : (at to : ℕ) (o : Option ℕ) (f : Option Field) (a : Ty) → (known at o >>= λ k. named_type to (and_then f (λ g. field_type ks g k))) ≡ ok a
      → (j : ℕ) → operand_names (field_found o f) j ≡ is_it j o
  field_named_lem at to none f a e j = refl
  field_named_lem at to (some k) none a e j = absurd (never_ok e)
  field_named_lem at to (some k) (some f) a e j = refl

  module _ (text : List ℕ) (at : ℕ) where
    pub leaf_names : (leaf : Leaf) (a : Ty) → type_of ks (leaf_on text at leaf) ≡ ok a
        → (j : ℕ) → operand_names (operand_on ks text leaf) j ≡ names ks (leaf_on text at leaf) j
    unfolding type_of names
    leaf_names (L.Truth b) a e j = refl
    leaf_names (L.Number base a b c d) t e j = refl
    leaf_names (L.Key w) a e j = key_named (find ks (spelling text w)) j
    leaf_names (L.Field w f) a e j = field_named_lem at f.from (find ks (spelling text w)) (field_named (spelling text f)) a e j
    leaf_names (L.Attribute f) a e j = refl

    pub leaf_marked : (leaf : Leaf) → operand_marked (operand_on ks text leaf) ≡ marked (leaf_on text at leaf)
    unfolding marked
    leaf_marked (L.Truth b) = refl
    leaf_marked (L.Number base a b c d) = refl
    leaf_marked (L.Key w) = key_unmarked (find ks (spelling text w))
    leaf_marked (L.Field w f) = field_unmarked (find ks (spelling text w)) (field_named (spelling text f))
    leaf_marked (L.Attribute f) = refl
