-- The code of the tree at a node, in parts: its operands', its own after them, and a join's skip between them.
use Prim.Native.Nat.{ℕ, ◌+◌, ◌-◌}
use native.Mathlib.Omega.{arith}
use mathlib.Core.Path.{◌≡◌, refl, sym, ◌∙◌, ap}
use mathlib.Core.Option.{some}
use mathlib.Core.List.{List, ◌++◌}
use lib.ListN.{length, length-append}
use Rattle.paper.specs.Keys.{Key}
use Rattle.paper.specs.Types.{meet}
use Rattle.paper.specs.Code.{Instruction}
use Rattle.paper.specs.Translating.{changed, code_of}
use Rattle.keys.specs.Says.{keys_in}
use Rattle.trees.specs.declared.node.Node.{Node}
use Rattle.trees.specs.declared.node.Node.TheVariants.{Without, Before, Between}
use Rattle.trees.specs.declared.node.Prefix as N
use Rattle.trees.specs.declared.node.Operator.{Operator}
use Rattle.trees.specs.declared.node.Operator.TheVariants.{Joins, Compares}
use Rattle.trees.specs.Nodes.{node_at, leaf_at, place_at, left_of}
use Rattle.trees.specs.Standing.{tree_on, tree_at}
use Rattle.trees.specs.Marks.{operand_at}
use Rattle.trees.proofs.Walks.{tree_at_lem}
use Rattle.typing.specs.Known.{Known}
use Rattle.typing.proofs.Knowing.{operands, left_known, right_known}
use Rattle.translating.specs.Own.{own_code, own_at, node_skips, skips_at}
use Rattle.translating.proofs.Coded as coded

six : (a s b c d e : List Instruction) → length (a ++ (s ++ (b ++ c ++ d ++ e))) ≡ length a + length s + length b + length c + length d + length e
six a s b c d e = simp length-append (omega arith)

-- how far a skip reaches says nothing of how many there are
skips_length : (n : Node) (p q : ℕ) → length (node_skips n p) ≡ length (node_skips n q)
skips_length Without p q = refl
skips_length (Before o) p q = refl
skips_length (Between (Joins o) left) p q = refl
skips_length (Between (Compares c) left) p q = refl

module _ (list nodes : List ℕ) (at : ℕ) (text : List ℕ) where
  abbrev ks : List Key
  ks = keys_in list

  abbrev code : ℕ → List Instruction
  code i = code_of ks (tree_at text nodes i)

  module _ (n : Node) (e : n ≡ node_at nodes at) where
    own_is : own_code n (operand_at nodes at) ≡ own_at nodes at
    own_is = ap (λ (m : Node). own_code m (operand_at nodes at)) e

    by_node : code_of ks (tree_on text (place_at nodes at) (leaf_at nodes at) n (tree_at text nodes (left_of n)) (tree_at text nodes (at - 1))) ≡ code at
    by_node = ap (code_of ks) (sym (tree_at_lem text nodes at n e))

  -- a leaf
  pub leaf_code : Without ≡ node_at nodes at → Known list nodes at text → own_at nodes at ≡ code at
  leaf_code e k =
      sym (own_is Without e)
      ∙ ap (own_code Without) (k.marked at (omega arith))
      ∙ coded.leaf_code ks text (place_at nodes at) (leaf_at nodes at)
      ∙ by_node Without e

  -- an operator before its operand
  module _ (o : N.Prefix) (e : Before o ≡ node_at nodes at) (k : Known list nodes at text) where
    pub prefixed_code : code (at - 1) ++ own_at nodes at ≡ code at
    unfolding code_of
    prefixed_code = ap (λ (x : List Instruction). code (at - 1) ++ x) (sym (own_is (Before o) e)) ∙ by_node (Before o) e

    pub prefixed_length : length (code at) ≡ length (code (at - 1)) + length (own_at nodes at)
    prefixed_length = sym (ap length prefixed_code) ∙ length-append (code (at - 1)) (own_at nodes at)

  -- an operator between its operands
  module _ (o : Operator) (left : ℕ) (e : Between o left ≡ node_at nodes at) (k : Known list nodes at text) where
    abbrev left_is : Known list nodes left text
    left_is = left_known list nodes at text o left e k

    abbrev right_is : Known list nodes (at - 1) text
    right_is = right_known list nodes at text o left e k

    -- what both operands change to
    abbrev pub left_change : List Instruction
    left_change = changed (some left_is.type) (meet left_is.type right_is.type)

    abbrev pub right_change : List Instruction
    right_change = changed (some right_is.type) (meet left_is.type right_is.type)

    -- from the left operand to the node's own instruction
    abbrev pub way : ℕ → ℕ
    way over = length (skips_at nodes at over) + length left_change + length (code (at - 1)) + length right_change

    in_parts : (over : ℕ) → over ≡ way over
        → code left ++ (skips_at nodes at over ++ (left_change ++ code (at - 1) ++ right_change ++ own_at nodes at)) ≡ code at
    in_parts over reaches =
        let types = operands list nodes at text o left e k in
        ap (λ (n : Node). code left ++ (node_skips n over ++ (left_change ++ code (at - 1) ++ right_change ++ own_code n (operand_at nodes at)))) (sym e)
        ∙ coded.operated_code ks (place_at nodes at) (tree_at text nodes left) (tree_at text nodes (at - 1)) types.0 types.1 k.type types.2 types.3 o over types.4
        (reaches ∙ ap (λ (n : Node). length (node_skips n over) + length left_change + length (code (at - 1)) + length right_change) (sym e))
        ∙ by_node (Between o left) e

    pub operated_code : {x y : List Instruction} → x ≡ left_change → y ≡ right_change → (over : ℕ)
        → over ≡ length (skips_at nodes at over) + length x + length (code (at - 1)) + length y
        → code left ++ (skips_at nodes at over ++ (x ++ code (at - 1) ++ y ++ own_at nodes at)) ≡ code at
    operated_code first second over reaches = rw (first, second) (in_parts over (rw (first, second) at reaches))

    pub operated_length : {x y : List Instruction} → x ≡ left_change → y ≡ right_change → (over : ℕ)
        → length (code at) ≡ length (code left) + length (skips_at nodes at over) + length x + length (code (at - 1)) + length y + length (own_at nodes at)
    operated_length {x} {y} first second over =
        let reach = length (skips_at nodes at 0) + length x + length (code (at - 1)) + length y in
        let slots = skips_length (node_at nodes at) in
        omega (
          arith,
          ap length (operated_code first second reach (omega (arith, slots 0 reach))),
          six (code left) (skips_at nodes at reach) x (code (at - 1)) y (own_at nodes at),
          slots reach over,
        )
