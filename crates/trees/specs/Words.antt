-- The words of a tree, node after node, and when a tree is one of a text.
use Rattle.std.specs.Prelude.{ℕ, ◌+◌, ◌*◌, ◌-◌, ◌/◌, ◌%◌, ◌^◌, ◌≡◌, List, [], ◌∷◌, ◌++◌, length, take, drop}
use Rattle.std.proofs.Math.Seq.{slice}
use Rattle.paper.specs.Tokens.{radix, Prefix, not_sign, minus_sign, Join, sequel, implies, or_else, and_also, Comparison, equal, unequal, greater, at_least, less, at_most}
use Rattle.paper.specs.Grammar.{Tree, truth, number, key, field, attribute, prefixed, joined, compared, nodes}
use Rattle.paper.specs.Code.{bit}
use Rattle.trees.specs.declared.node.Operator.{Operator}
use Rattle.trees.specs.declared.node.Operator.TheVariants.{Joins, Compares}
use Rattle.trees.specs.Standing.{join_meant, comparison_meant}

-- the number of a node's kind: 0 truth, 1 number, 2 key, 3 field, 4 attribute, then the operators
abbrev pub prefix_no : Prefix → ℕ
prefix_no not_sign = 5
prefix_no minus_sign = 6

abbrev pub join_no : Join → ℕ
join_no sequel = 7
join_no implies = 8
join_no or_else = 9
join_no and_also = 10

abbrev pub comparison_no : Comparison → ℕ
comparison_no equal = 11
comparison_no unequal = 12
comparison_no greater = 13
comparison_no at_least = 14
comparison_no less = 15
comparison_no at_most = 16

abbrev pub operator_no : Operator → ℕ
operator_no (Joins o) = join_no (join_meant o)
operator_no (Compares c) = comparison_no (comparison_meant c)

abbrev pub limb : ℕ → ℕ → ℕ
limb n k = n / 2 ^ (32 * k) % 2 ^ 32

abbrev pub leaf_words : ℕ → ℕ → ℕ → ℕ → ℕ → ℕ → List ℕ
leaf_words kind at a b c d = kind ∷ at ∷ 0 ∷ a ∷ b ∷ c ∷ d ∷ 0 ∷ []

-- a number's base stands where an operator has its left operand
abbrev pub number_words : ℕ → ℕ → ℕ → ℕ → ℕ → ℕ → List ℕ
number_words at base a b c d = 1 ∷ at ∷ base ∷ a ∷ b ∷ c ∷ d ∷ 0 ∷ []

abbrev pub operator_words : ℕ → ℕ → ℕ → List ℕ
operator_words kind at left = kind ∷ at ∷ left ∷ 0 ∷ 0 ∷ 0 ∷ 0 ∷ 0 ∷ []

-- the words of a tree whose first node has the number b
abbrev pub words : ℕ → Tree → List ℕ
words b (truth at t) = leaf_words 0 at (bit t) 0 0 0
words b (number at n) = number_words at (radix n.base) (limb n.value 0) (limb n.value 1) (limb n.value 2) (limb n.value 3)
words b (key at w) = leaf_words 2 at at (at + length w) 0 0
words b (field at w to f) = leaf_words 3 at at (at + length w) to (to + length f)
words b (attribute at to f) = leaf_words 4 at 0 0 to (to + length f)
words b (prefixed at o t) = words b t ++ operator_words (prefix_no o) at 0
words b (joined at o l r) = words b l ++ words (b + nodes l) r ++ operator_words (join_no o) at (b + nodes l - 1)
words b (compared at c l r) = words b l ++ words (b + nodes l) r ++ operator_words (comparison_no c) at (b + nodes l - 1)

-- a tree's words stand in the slice, its first node at number b
abbrev pub Stands : List ℕ → ℕ → Tree → Type 0
Stands ns b t = take (nodes t * 8) (drop (b * 8) ns) ≡ words b t

-- a name stands in the text at its place
abbrev pub Spells : List ℕ → ℕ → List ℕ → Type 0
Spells text at w = slice at (at + length w) text ≡ w

-- and so does each name of a tree
abbrev pub Spelled : List ℕ → Tree → Type 0
Spelled text (truth at b) = Unit {0}
Spelled text (number at n) = Unit {0}
Spelled text (key at w) = Spells text at w
Spelled text (field at w to f) = Spells text at w × Spells text to f
Spelled text (attribute at to f) = Spells text to f
Spelled text (prefixed at o t) = Spelled text t
Spelled text (joined at o l r) = Spelled text l × Spelled text r
Spelled text (compared at c l r) = Spelled text l × Spelled text r
