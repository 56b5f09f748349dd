-- The marks of a node: what the names of a leaf name, in two words that nothing else reads there. In the third, that of a left operand or of a number's base,
-- stands the index of the leaf's key and one, in the last the number of its field and one, or for an attribute 1 if it is the
-- priority; 0 stands for a name of nothing.
use Rattle.std.specs.Prelude.{ℕ, ◌+◌, ◌*◌, ◌-◌, ◌<◌, ◌≡◌, cond, List, get_or, set, eqb, ltb}
use Rattle.std.proofs.Math.Option.{Option, none, some}
use Rattle.paper.specs.Tokens.{bytes, same_bytes}
use Rattle.paper.specs.Keys as P
use Rattle.paper.specs.Keys.{find}
use Rattle.paper.specs.Types as T
use Rattle.paper.specs.Types.{field_named}
use Rattle.paper.specs.Code.{field_no}
use Rattle.trees.specs.declared.node.Leaf.{Leaf}
use Rattle.trees.specs.declared.node.Leaf.TheVariants as L
use Rattle.trees.specs.declared.marks.Operand.{Operand}
use Rattle.trees.specs.declared.marks.Operand.TheVariants.{Truth, Number, Key, Field, Attribute, UnknownKey, UnknownField}
use Rattle.trees.specs.Nodes.{leaf_at}
use Rattle.trees.specs.Standing.{spelling}

-- what marks are read as

abbrev pub key_marked : ℕ → Operand
key_marked key = cond (eqb key 0) UnknownKey (Key (key - 1))

abbrev pub field_marked : ℕ → ℕ → Operand
field_marked key name =
    cond (eqb key 0) UnknownKey
    (cond (eqb name 0) UnknownField
    (cond (ltb 5 name) UnknownField (Field (key - 1) (name - 1))))

abbrev pub operand_of : Leaf → ℕ → ℕ → Operand
operand_of (L.Truth b) key name = Truth b
operand_of (L.Number base a b c d) key name = Number a b c d
operand_of (L.Key w) key name = key_marked key
operand_of (L.Field w f) key name = field_marked key name
operand_of (L.Attribute f) key name = Attribute (eqb name 1)

unfoldable pub operand_at : List ℕ → ℕ → Operand
unfolding leaf_at
operand_at nodes i = operand_of (leaf_at nodes i) (get_or nodes (i * 8 + 2) 0) (get_or nodes (i * 8 + 7) 0)

-- the place of the name after "::"
abbrev pub name_at : List ℕ → ℕ → ℕ
name_at nodes i = get_or nodes (i * 8 + 5) 0

-- what names are by a list of keys

abbrev pub key_found : Option ℕ → Operand
key_found none = UnknownKey
key_found (some k) = Key k

abbrev pub field_found : Option ℕ → Option T.Field → Operand
field_found none f = UnknownKey
field_found (some k) none = UnknownField
field_found (some k) (some f) = Field k (field_no f)

abbrev pub operand_on : List P.Key → List ℕ → Leaf → Operand
operand_on ks text (L.Truth b) = Truth b
operand_on ks text (L.Number base a b c d) = Number a b c d
operand_on ks text (L.Key w) = key_found (find ks (spelling text w))
operand_on ks text (L.Field w f) = field_found (find ks (spelling text w)) (field_named (spelling text f))
operand_on ks text (L.Attribute f) = Attribute (same_bytes (spelling text f) (bytes "priority"))

-- the marks of every node below n are those of its names
abbrev pub Marked : List P.Key → List ℕ → List ℕ → ℕ → Type 0
Marked ks text nodes n = (i : ℕ) → i < n → operand_at nodes i ≡ operand_on ks text (leaf_at nodes i)

-- writing

abbrev pub marking : List ℕ → ℕ → ℕ → ℕ → List ℕ
marking nodes i key name = set (set nodes (i * 8 + 2) key) (i * 8 + 7) name

abbrev pub key_mark : Option ℕ → ℕ
key_mark none = 0
key_mark (some k) = k + 1

abbrev pub field_mark : Option T.Field → ℕ
field_mark none = 0
field_mark (some f) = field_no f + 1

-- a leaf that has a name
abbrev pub Names : Leaf → Type 0
Names (L.Truth b) = ⊥
Names (L.Number base a b c d) = ⊥
Names (L.Key w) = Unit {0}
Names (L.Field w f) = Unit {0}
Names (L.Attribute f) = Unit {0}

-- the name of a leaf after "::" begins at a place
abbrev pub NamedAt : ℕ → Leaf → Type 0
NamedAt to (L.Truth b) = Unit {0}
NamedAt to (L.Number base a b c d) = Unit {0}
NamedAt to (L.Key w) = Unit {0}
NamedAt to (L.Field w f) = f.from ≡ to
NamedAt to (L.Attribute f) = f.from ≡ to
