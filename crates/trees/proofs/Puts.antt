-- A node that is put behind others: the trees at the nodes before it stay, since a tree hangs on no node after its root, and the tree at
-- it is made of those.
use Prim.Native.Nat.{ℕ, zero, suc, ◌+◌, ◌*◌, ◌-◌, ◌^◌, ◌<◌, ◌≤◌}
use native.Mathlib.Omega.{arith}
use mathlib.Core.Path.{◌≡◌, refl, sym, ◌∙◌, ap, ap₂}
use mathlib.Core.Bool.{Bool}
use mathlib.Core.List.{List, [], ◌∷◌, ◌++◌, append_assoc}
use lib.ListN.{length, get_or, take, drop}
use lib.Seq.{sets, sets-eq, slice, take_at, drop_at, get_or-take, length-take-le}
use Rattle.paper.specs.Code.{bit}
use Rattle.paper.specs.Tokens as P
use Rattle.paper.specs.Grammar as G
use Rattle.trees.specs.declared.node.Node.{Node}
use Rattle.trees.specs.declared.node.Node.TheVariants.{Without, Before, Between}
use Rattle.trees.specs.declared.node.Prefix.{Prefix}
use Rattle.trees.specs.declared.node.Operator.{Operator}
use Rattle.trees.specs.declared.node.Operator.TheVariants.{Joins, Compares}
use Rattle.trees.specs.Nodes.{node_of, node_at, leaf_of, leaf_at, place_at, left_of, join_of, comparison_of, prefix_of, Below}
use Rattle.trees.specs.Standing.{tree_on, tree_at, operator_on, prefix_meant, join_meant, comparison_meant}
use Rattle.trees.specs.Words.{words, leaf_words, operator_words, operator_no, prefix_no, join_no, comparison_no, limb}
use Rattle.trees.proofs.Walks.{below, tree_at_lem}
use Rattle.trees.proofs.Stored.{from_words, prefix_back, join_back, comparison_back, prefix_meant_lem, join_meant_lem, comparison_meant_lem, bit_back, limbs_of}
use Rattle.number.proofs.Bases.{radix_back}

-- the nodes below n are those of two slices alike
module _ (text before after : List ℕ) (n : ℕ) (same : take (n * 8) after ≡ take (n * 8) before) where
  word : (p : ℕ) → p < n * 8 → get_or after p 0 ≡ get_or before p 0
  word p h = sym (get_or-take (n * 8) after p 0 h) ∙ ap (λ (w : List ℕ). get_or w p 0) same ∙ get_or-take (n * 8) before p 0 h

  module _ (i : ℕ) (h : i < n) where
    same_node : node_at after i ≡ node_at before i
    unfolding node_at
    same_node = rw (word (i * 8) (omega arith), word (i * 8 + 2) (omega arith))

    same_leaf : leaf_at after i ≡ leaf_at before i
    unfolding leaf_at
    same_leaf =
        rw (word (i * 8) (omega arith), word (i * 8 + 2) (omega arith), word (i * 8 + 3) (omega arith), word (i * 8 + 4) (omega arith), word (i * 8 + 5) (omega arith), word (i * 8 + 6) (omega arith))

    same_place : place_at after i ≡ place_at before i
    same_place = word (i * 8 + 1) (omega arith)

  -- a node's operands stand below it
  operands : (i : ℕ) (x : Node) → Below i x → i < n → ((j : ℕ) → j < i → tree_at text after j ≡ tree_at text before j)
      → tree_on text (place_at before i) (leaf_at before i) x (tree_at text after (left_of x)) (tree_at text after (i - 1))
      ≡ tree_on text (place_at before i) (leaf_at before i) x (tree_at text before (left_of x)) (tree_at text before (i - 1))
  operands i Without b h each = refl
  operands i (Before o) b h each = ap (G.prefixed (place_at before i) (prefix_meant o)) (each (i - 1) (omega arith))
  operands i (Between o l) b h each = ap₂ (operator_on (place_at before i) o) (each l b) (each (i - 1) (omega arith))

  below_all : (m i : ℕ) → i < m → i < n → tree_at text after i ≡ tree_at text before i
  below_all zero i g h = absurd (omega arith)
  below_all (suc m) i g h =
      let x = node_at before i in
      tree_at_lem text after i x (sym (same_node i h))
      ∙ ap₂ (λ p l. tree_on text p l x (tree_at text after (left_of x)) (tree_at text after (i - 1))) (same_place i h) (same_leaf i h)
      ∙ operands i x (below before i x refl) h (λ j l. below_all m j (omega arith) (omega arith))
      ∙ sym (tree_at_lem text before i x refl)

  pub same_tree_below : (i : ℕ) → i < n → tree_at text after i ≡ tree_at text before i
  same_tree_below i h = below_all (suc i) i (omega arith) h

-- what is put behind leaves what stood before it
pub put_behind : (l : List ℕ) (i : ℕ) (ws : List ℕ) → i + length ws ≤ length l → take i (sets l i ws) ≡ take i l
put_behind l i ws h =
    rw (sets-eq ws l i h, append_assoc (take i l) ws (drop (i + length ws) l))
    (take_at (take i l) _ i (length-take-le i l (omega arith)))

-- eight words are put at node i
module _ (text before after : List ℕ) (i k at l a b c d : ℕ) (room : i * 8 + 8 ≤ length before)
    (put : after ≡ sets before (i * 8) (k ∷ at ∷ l ∷ a ∷ b ∷ c ∷ d ∷ 0 ∷ [])) where
  abbrev row : List ℕ
  row = k ∷ at ∷ l ∷ a ∷ b ∷ c ∷ d ∷ 0 ∷ []

  laid_out : after ≡ take (i * 8) before ++ (row ++ drop (i * 8 + 8) before)
  laid_out = put ∙ sets-eq row before (i * 8) room ∙ append_assoc (take (i * 8) before) row (drop (i * 8 + 8) before)

  front_length : length (take (i * 8) before) ≡ i * 8
  front_length = length-take-le (i * 8) before (omega arith)

  nodes_before : take (i * 8) after ≡ take (i * 8) before
  nodes_before = rw put (put_behind before (i * 8) row room)

  row_there : take 8 (drop (i * 8) after) ≡ row
  row_there = rw (laid_out, drop_at (take (i * 8) before) (row ++ drop (i * 8 + 8) before) (i * 8) front_length)

  trees_before : (j : ℕ) → j < i → tree_at text after j ≡ tree_at text before j
  trees_before j h = same_tree_below text before after i nodes_before j h

  from_row : (n : Node) → n ≡ node_of k i l
      → tree_at text after i ≡ tree_on text at (leaf_of k l a b c d) n (tree_at text after (left_of n)) (tree_at text after (i - 1))
  from_row n h = from_words after i k at l a b c d 0 row_there text n h

-- the tree at the node that was put

module _ (text before after : List ℕ) (i : ℕ) (room : i * 8 + 8 ≤ length before) where
  pub truth_put : (at : ℕ) (t : Bool) → after ≡ sets before (i * 8) (words i (G.truth at t)) → tree_at text after i ≡ G.truth at t
  truth_put at t put = from_row text before after i 0 at 0 (bit t) 0 0 0 room put Without refl ∙ ap (G.truth at) (bit_back t)

  pub number_put : (at : ℕ) (n : P.Literal) → n.value < 2 ^ 128 → after ≡ sets before (i * 8) (words i (G.number at n))
      → tree_at text after i ≡ G.number at n
  number_put at n fits put =
      from_row text before after i 1 at (P.radix n.base) (limb n.value 0) (limb n.value 1) (limb n.value 2) (limb n.value 3) room put Without refl
      ∙ ap₂ (λ (o : P.Base) (m : ℕ). G.number at (P.literal_in o m)) (radix_back n.base) (limbs_of n.value fits)

  pub name_put : (from to : ℕ) → after ≡ sets before (i * 8) (leaf_words 2 0 from to 0 0) → tree_at text after i ≡ G.key 0 (slice from to text)
  name_put from to put = from_row text before after i 2 0 0 from to 0 0 room put Without refl

  pub prefix_put : (at : ℕ) (o : Prefix) → 0 < i → after ≡ sets before (i * 8) (operator_words (prefix_no (prefix_meant o)) at 0)
      → tree_at text after i ≡ G.prefixed at (prefix_meant o) (tree_at text before (i - 1))
  prefix_put at o some put =
      let k = prefix_no (prefix_meant o) in
      from_row text before after i k at 0 0 0 0 0 room put (Before (prefix_of k)) (prefix_back i 0 (prefix_meant o) some)
      ∙ ap₂ (G.prefixed at) (prefix_meant_lem (prefix_meant o)) (trees_before text before after i k at 0 0 0 0 0 room put (i - 1) (omega arith))

  pub operator_put : (at : ℕ) (o : Operator) (left : ℕ) → left < i → after ≡ sets before (i * 8) (operator_words (operator_no o) at left)
      → tree_at text after i ≡ operator_on at o (tree_at text before left) (tree_at text before (i - 1))
  operator_put at (Joins o) left h put =
      let k = join_no (join_meant o) in
      let stay = trees_before text before after i k at left 0 0 0 0 room put in
      from_row text before after i k at left 0 0 0 0 room put (Between (Joins (join_of k)) left) (join_back i left (join_meant o) h)
      ∙ ap (λ (x : P.Join). G.joined at x (tree_at text after left) (tree_at text after (i - 1))) (join_meant_lem (join_meant o))
      ∙ ap₂ (G.joined at (join_meant o)) (stay left h) (stay (i - 1) (omega arith))
  operator_put at (Compares c) left h put =
      let k = comparison_no (comparison_meant c) in
      let stay = trees_before text before after i k at left 0 0 0 0 room put in
      from_row text before after i k at left 0 0 0 0 room put (Between (Compares (comparison_of k)) left) (comparison_back i left (comparison_meant c) h)
      ∙ ap (λ (x : P.Comparison). G.compared at x (tree_at text after left) (tree_at text after (i - 1))) (comparison_meant_lem (comparison_meant c))
      ∙ ap₂ (G.compared at (comparison_meant c)) (stay left h) (stay (i - 1) (omega arith))
