-- The code of a join and of a comparison at a node, in the order in which it is written, and how long it is: the operands of a join are both
-- bool, so that nothing changes, and its skip is written last; a comparison has no skip.
use Prim.Native.Nat.{ℕ, ◌+◌, ◌-◌}
use native.Mathlib.Omega.{arith}
use mathlib.Core.Path.{◌≡◌, refl, sym, ◌∙◌, ap}
use mathlib.Core.Bool.{true, false≢true}
use mathlib.Core.List.{List, [], ◌++◌, append-nil}
use lib.ListN.{length}
use Rattle.paper.specs.Code.{Instruction}
use Rattle.paper.specs.Translating.{code_of}
use Rattle.keys.specs.Says.{keys_in}
use Rattle.trees.specs.declared.node.Node.{Node}
use Rattle.trees.specs.declared.node.Node.TheVariants.{Without, Before, Between}
use Rattle.trees.specs.declared.node.Join.{Join}
use Rattle.trees.specs.declared.node.Comparison.{Comparison}
use Rattle.trees.specs.declared.node.Operator.TheVariants.{Joins, Compares}
use Rattle.trees.specs.Nodes.{node_at, place_at}
use Rattle.trees.specs.Standing.{tree_at}
use Rattle.typing.specs.Known.{Known}
use Rattle.typing.proofs.Knowing.{operands}
use Rattle.translating.specs.Compared.{is_leaf}
use Rattle.translating.specs.Own.{own_at, node_skips, skips_at}
use Rattle.translating.specs.Writing.{Wrote}
use Rattle.translating.proofs.Coded.{joined_bools}
use Rattle.translating.proofs.Parted.{left_change, right_change, operated_code, operated_length}
use Rattle.translating.proofs.Rows.{wrote_as, wrote_on, wrote_before}

pub leaf_node : (n : Node) → is_leaf n ≡ true → Without ≡ n
leaf_node Without h = refl
leaf_node (Before o) h = absurd (false≢true h)
leaf_node (Between o left) h = absurd (false≢true h)

module _ (list nodes : List ℕ) (at : ℕ) (text : List ℕ) (left : ℕ) where
  abbrev code : ℕ → List Instruction
  code i = code_of (keys_in list) (tree_at text nodes i)

  -- a join
  module _ (o : Join) (e : Between (Joins o) left ≡ node_at nodes at) (k : Known list nodes at text) where
    pub skip_length : (over : ℕ) → length (skips_at nodes at over) ≡ 1
    skip_length over = ap (λ (n : Node). length (node_skips n over)) (sym e)

    unchanged : ([] ≡ left_change list nodes at text (Joins o) left e k) × ([] ≡ right_change list nodes at text (Joins o) left e k)
    unchanged =
        let types = operands list nodes at text (Joins o) left e k in
        let bools = joined_bools (place_at nodes at) o types.0 types.1 k.type types.4 in
        (rw (bools.0, bools.1), rw (bools.0, bools.1))

    pub joined_length : length (code at) ≡ length (code left) + 1 + length (code (at - 1)) + length (own_at nodes at)
    joined_length = omega (arith, operated_length list nodes at text (Joins o) left e k unchanged.0 unchanged.1 0, skip_length 0)

    -- its skip passes over the right operand's code and the join
    joined_code : (over : ℕ) → over ≡ 1 + length (code (at - 1)) → code left ++ (skips_at nodes at over ++ (code (at - 1) ++ own_at nodes at)) ≡ code at
    joined_code over reaches =
        ap (λ (right : List Instruction). code left ++ (skips_at nodes at over ++ (right ++ own_at nodes at))) (sym (append-nil (code (at - 1))))
        ∙ operated_code list nodes at text (Joins o) left e k unchanged.0 unchanged.1 over (omega (arith, reaches, skip_length over))

    pub joined_written : {s t u v w : List ℕ} {i a b end next : ℕ} → Wrote s i (code left) t a → Wrote t (a + 1) (code (at - 1)) u b
        → Wrote u b (own_at nodes at) v end → Wrote v a (skips_at nodes at (b - a)) w next → Wrote s i (code at) w end
    joined_written {a = a} {b = b} first second own skip =
        wrote_as (joined_code (b - a) (omega (arith, second.next)))
        (wrote_on first (wrote_before (ap (λ (n : ℕ). a + n) (sym (skip_length (b - a)))) (wrote_on second own) skip))

  -- a comparison
  module _ (c : Comparison) (e : Between (Compares c) left ≡ node_at nodes at) (k : Known list nodes at text) {x y : List Instruction}
      (first : x ≡ left_change list nodes at text (Compares c) left e k) (second : y ≡ right_change list nodes at text (Compares c) left e k) where
    no_skip : (over : ℕ) → [] ≡ skips_at nodes at over
    no_skip over = ap (λ (n : Node). node_skips n over) e

    pub compared_length : length (code at) ≡ length (code left) + length x + length (code (at - 1)) + length y + length (own_at nodes at)
    compared_length = omega (arith, operated_length list nodes at text (Compares c) left e k first second 0, ap length (no_skip 0))

    compared_code : code left ++ (x ++ code (at - 1) ++ y ++ own_at nodes at) ≡ code at
    compared_code =
        let over = length x + length (code (at - 1)) + length y in
        ap (λ (skips : List Instruction). code left ++ (skips ++ (x ++ code (at - 1) ++ y ++ own_at nodes at))) (no_skip over)
        ∙ operated_code list nodes at text (Compares c) left e k first second over (omega (arith, ap length (no_skip over)))

    pub compared_written : {s t u v w z : List ℕ} {i a b d f end : ℕ} → Wrote s i (code left) t a → Wrote t a x u b
        → Wrote u b (code (at - 1)) v d → Wrote v d y w f → Wrote w f (own_at nodes at) z end → Wrote s i (code at) z end
    compared_written left_written left_changed right_written right_changed own =
        wrote_as compared_code (wrote_on left_written (wrote_on (wrote_on (wrote_on left_changed right_written) right_changed) own))
