-- What a mark is read as, and what it leaves as it was.
use Prim.Native.Nat.{ℕ, zero, suc, ◌+◌, ◌*◌, ◌-◌, ◌≤◌, ◌<◌}
use native.Mathlib.Omega.{arith}
use native.Mathlib.Decide.{dec_lt}
use mathlib.Core.Path.{◌≡◌, refl, sym, ◌∙◌, ap₂}
use mathlib.Core.Bool.{Bool, true, false, cond}
use mathlib.Core.Option.{Option, none, some}
use mathlib.Core.List.{List}
use lib.ListN.{length, get_or, set, length-set}
use lib.Seq.{get_or-set_same, get_or-set_other}
use lib.Dec.{eqb, ltb}
use borrow.Author.Tests.{ne_eqb, lt-ltb, ltb-false}
use Rattle.paper.specs.Code.{bit}
use Rattle.paper.specs.Types as T
use Rattle.paper.specs.Keys as P
use Rattle.number.specs.Bases.{of_radix}
use Rattle.number.specs.declared.base.Base.{Base}
use Rattle.trees.specs.declared.node.Leaf.{Leaf}
use Rattle.trees.specs.declared.node.Leaf.TheVariants as L
use Rattle.trees.specs.declared.marks.Operand.{Operand}
use Rattle.trees.specs.declared.marks.Operand.TheVariants as O
use Rattle.trees.specs.Nodes.{leaf_of, leaf_at, node_of, node_at, place_at, left_of}
use Rattle.trees.specs.Standing.{tree_on, tree_to, tree_at}
use Rattle.trees.specs.Marks.{operand_of, operand_at, key_marked, field_marked, key_found, field_found, key_mark, field_mark, marking, Names, name_at, NamedAt, Marked}

-- the mark of a name is read as what it names

module _ (k : ℕ) where
  one_less : k + 1 - 1 ≡ k
  one_less = omega arith

  some_key : eqb (k + 1) 0 ≡ false
  some_key = ne_eqb (k + 1) 0 (λ h. omega arith)

pub key_back : (o : Option ℕ) → key_marked (key_mark o) ≡ key_found o
key_back none = refl
key_back (some k) = rw (some_key k, one_less k)

pub field_back : (o : Option ℕ) (f : Option T.Field) → field_marked (key_mark o) (field_mark f) ≡ field_found o f
field_back none f = refl
field_back (some k) none = rw (some_key k)
field_back (some k) (some T.value) = rw (some_key k, one_less k)
field_back (some k) (some T.mask) = rw (some_key k, one_less k)
field_back (some k) (some T.prefix_length) = rw (some_key k, one_less k)
field_back (some k) (some T.low) = rw (some_key k, one_less k)
field_back (some k) (some T.high) = rw (some_key k, one_less k)

pub priority_back : (b : Bool) → eqb (bit b) 1 ≡ b
priority_back true = refl
priority_back false = refl

-- a node with a name is no operator, so its third word is no operand
unmoved : (kind base a b c d : ℕ) → Names (leaf_of kind base a b c d) → (i x y : ℕ) → node_of kind i x ≡ node_of kind i y
unmoved kind base a b c d h i x y =
    elim (dec_lt kind 5) [
      | yes l ↦ rw (lt-ltb kind 5 l)
      | no l ↦
          absurd
          (rw (ne_eqb kind 0 (λ e. omega arith), ne_eqb kind 1 (λ e. omega arith), ne_eqb kind 2 (λ e. omega arith), ne_eqb kind 3 (λ e. omega arith), ne_eqb kind 4 (λ e. omega arith)) at h)
    ]

-- nor is it a number, so its third word is no base
not_base : (t n : Bool) (v : Bool) (x y : Base) (a b c d : ℕ) (rest : Leaf) → Names (cond t (L.Truth v) (cond n (L.Number x a b c d) rest))
    → cond t (L.Truth v) (cond n (L.Number x a b c d) rest) ≡ cond t (L.Truth v) (cond n (L.Number y a b c d) rest)
not_base true n v x y a b c d rest h = absurd h
not_base false true v x y a b c d rest h = absurd h
not_base false false v x y a b c d rest h = refl

module _ (nodes : List ℕ) (i key name : ℕ) where
  abbrev after : List ℕ
  after = marking nodes i key name

  other_word : (p : ℕ) → (p ≡ i * 8 + 2 → ⊥) → (p ≡ i * 8 + 7 → ⊥) → get_or after p 0 ≡ get_or nodes p 0
  other_word p two seven = get_or-set_other (set nodes (i * 8 + 2) key) (i * 8 + 7) p name 0 seven ∙ get_or-set_other nodes (i * 8 + 2) p key 0 two

  -- the words that a node or a leaf is read from, but the third
  word : (j k : ℕ) → k < 7 → (k ≡ 2 → ⊥) → get_or after (j * 8 + k) 0 ≡ get_or nodes (j * 8 + k) 0
  word j k h two = other_word (j * 8 + k) (λ e. two (omega arith)) (λ e. omega arith)

  third_word : (j : ℕ) → (j ≡ i → ⊥) → get_or after (j * 8 + 2) 0 ≡ get_or nodes (j * 8 + 2) 0
  third_word j d = other_word (j * 8 + 2) (λ e. d (omega arith)) (λ e. omega arith)

  kind_word : (j : ℕ) → get_or after (j * 8) 0 ≡ get_or nodes (j * 8) 0
  kind_word j = other_word (j * 8) (λ e. omega arith) (λ e. omega arith)

  pub kept : length after ≡ length nodes
  kept = length-set (set nodes (i * 8 + 2) key) (i * 8 + 7) name ∙ length-set nodes (i * 8 + 2) key

  pub same_place : (j : ℕ) → place_at after j ≡ place_at nodes j
  same_place j = word j 1 (omega arith) (λ e. omega arith)

  leaf_elsewhere : (j : ℕ) → (j ≡ i → ⊥) → leaf_at after j ≡ leaf_at nodes j
  unfolding leaf_at
  leaf_elsewhere j d =
      rw (kind_word j, third_word j d, word j 3 (omega arith) (λ e. omega arith), word j 4 (omega arith) (λ e. omega arith), word j 5 (omega arith) (λ e. omega arith), word j 6 (omega arith) (λ e. omega arith))

  leaf_here : Names (leaf_at nodes i) → leaf_at after i ≡ leaf_at nodes i
  unfolding leaf_at
  leaf_here h =
      let kind = get_or nodes (i * 8) 0 in
      rw (kind_word i, word i 3 (omega arith) (λ e. omega arith), word i 4 (omega arith) (λ e. omega arith), word i 5 (omega arith) (λ e. omega arith), word i 6 (omega arith) (λ e. omega arith))
      (sym (not_base (eqb kind 0) (eqb kind 1) _ _ _ _ _ _ _ _ h))

  pub same_leaf : Names (leaf_at nodes i) → (j : ℕ) → leaf_at after j ≡ leaf_at nodes j
  same_leaf h j =
      elim (dec_lt j i) [
        | yes l ↦ leaf_elsewhere j (λ e. omega arith)
        | no m ↦ elim (dec_lt i j) [ yes l ↦ leaf_elsewhere j (λ e. omega arith) | no l ↦ let e : j ≡ i = omega arith in rw e (leaf_here h) ]
      ]

  pub same_node : Names (leaf_at nodes i) → (j : ℕ) → node_at after j ≡ node_at nodes j
  unfolding leaf_at node_at
  same_node h j = rw (kind_word j) (elim (dec_lt j i) [ yes l ↦ elsewhere (λ e. omega arith) | no m ↦ elim (dec_lt i j) [ yes l ↦ elsewhere (λ e. omega arith) | no l ↦ here (omega arith) ] ])
    where
      elsewhere : (j ≡ i → ⊥) → node_of (get_or nodes (j * 8) 0) j (get_or after (j * 8 + 2) 0) ≡ node_of (get_or nodes (j * 8) 0) j (get_or nodes (j * 8 + 2) 0)
      elsewhere d = rw (third_word j d)

      here : j ≡ i → node_of (get_or nodes (j * 8) 0) j (get_or after (j * 8 + 2) 0) ≡ node_of (get_or nodes (j * 8) 0) j (get_or nodes (j * 8 + 2) 0)
      here e = rw e (unmoved (get_or nodes (i * 8) 0) (get_or nodes (i * 8 + 2) 0) (get_or nodes (i * 8 + 3) 0) (get_or nodes (i * 8 + 4) 0) (get_or nodes (i * 8 + 5) 0) (get_or nodes (i * 8 + 6) 0) h i (get_or after (i * 8 + 2) 0) (get_or nodes (i * 8 + 2) 0))

  pub marked : Names (leaf_at nodes i) → i * 8 + 8 ≤ length nodes → operand_at after i ≡ operand_of (leaf_at nodes i) key name
  unfolding operand_at
  marked h room =
      rw (
        leaf_here h,
        get_or-set_other (set nodes (i * 8 + 2) key) (i * 8 + 7) (i * 8 + 2) name 0 (λ e. omega arith) ∙ get_or-set_same nodes (i * 8 + 2) key 0 (omega arith),
        get_or-set_same (set nodes (i * 8 + 2) key) (i * 8 + 7) name 0 (omega (arith, length-set nodes (i * 8 + 2) key)),
      )

  pub unmarked : (j : ℕ) → (j ≡ i → ⊥) → operand_at after j ≡ operand_at nodes j
  unfolding operand_at
  unmarked j d = rw (leaf_elsewhere j d, third_word j d, other_word (j * 8 + 7) (λ e. omega arith) (λ e. d (omega arith)))

-- nodes, leaves and places make the tree
module _ (text before after : List ℕ) (nodes : (i : ℕ) → node_at after i ≡ node_at before i) (leaves : (i : ℕ) → leaf_at after i ≡ leaf_at before i)
    (places : (i : ℕ) → place_at after i ≡ place_at before i)
  where
    same_to : (d i : ℕ) → tree_to text after d i ≡ tree_to text before d i
    unfolding tree_to
    same_to zero i = refl
    same_to (suc d) i =
        rw (nodes i, leaves i, places i)
        (ap₂ (tree_on text (place_at before i) (leaf_at before i) (node_at before i)) (same_to d (left_of (node_at before i))) (same_to d (i - 1)))

    pub same_tree : (i : ℕ) → tree_at text after i ≡ tree_at text before i
    unfolding tree_at
    same_tree i = same_to (suc i) i

-- a leaf's name stands where its sixth word says

named_of : (base : Base) (a b c d : ℕ) (t n k f x : Bool) → NamedAt c
    (cond t (L.Truth (eqb a 1)) (cond n (L.Number base a b c d) (cond k (L.Key (record { from = a; to = b }))
    (cond f (L.Field (record { from = a; to = b }) (record { from = c; to = d })) (cond x (L.Attribute (record { from = c; to = d })) (L.Truth false))))))
named_of base a b c d true n k f x = tt
named_of base a b c d false true k f x = tt
named_of base a b c d false false true f x = tt
named_of base a b c d false false false true x = refl
named_of base a b c d false false false false true = refl
named_of base a b c d false false false false false = tt

pub named_at : (nodes : List ℕ) (i : ℕ) → NamedAt (name_at nodes i) (leaf_at nodes i)
unfolding leaf_at
named_at nodes i =
    let kind = get_or nodes (i * 8) 0 in
    named_of (of_radix (get_or nodes (i * 8 + 2) 0)) (get_or nodes (i * 8 + 3) 0) (get_or nodes (i * 8 + 4) 0) (name_at nodes i) (get_or nodes (i * 8 + 6) 0) (eqb kind 0) (eqb kind 1) (eqb kind 2) (eqb kind 3) (eqb kind 4)

-- what holds of nodes below one number holds of those below a smaller one
pub marked_below : (ks : List P.Key) (text nodes : List ℕ) {m n : ℕ} → m ≤ n → Marked ks text nodes n → Marked ks text nodes m
marked_below ks text nodes l marked i h = marked i (omega arith)

-- there are five fields

abbrev pub AField : Operand → Type 0
AField (O.Truth b) = Unit {0}
AField (O.Number a b c d) = Unit {0}
AField (O.Key k) = Unit {0}
AField (O.Field k f) = f < 5
AField (O.Attribute b) = Unit {0}
AField O.UnknownKey = Unit {0}
AField O.UnknownField = Unit {0}

either : (t : Bool) (x y : Operand) → AField x → (t ≡ false → AField y) → AField (cond t x y)
either true x y h k = h
either false x y h k = k refl

field_of : (leaf : Leaf) (key name : ℕ) → AField (operand_of leaf key name)
field_of (L.Truth b) key name = tt
field_of (L.Number base a b c d) key name = tt
field_of (L.Key w) key name = either (eqb key 0) _ _ tt (λ h. tt)
field_of (L.Field w f) key name =
    either (eqb key 0) _ _ tt
    (λ _. either (eqb name 0) _ _ tt
    (λ _. either (ltb 5 name) _ (O.Field (key - 1) (name - 1)) tt (λ few. omega (arith, ltb-false 5 name few))))
field_of (L.Attribute f) key name = tt

pub a_field : (nodes : List ℕ) (i : ℕ) → AField (operand_at nodes i)
unfolding operand_at
a_field nodes i = field_of (leaf_at nodes i) (get_or nodes (i * 8 + 2) 0) (get_or nodes (i * 8 + 7) 0)
