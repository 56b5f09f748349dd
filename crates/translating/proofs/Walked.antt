-- What the walk is asked on its way from part to part of a tree's code: the operands stand below the node and are known as it is, and each part
-- has room because the whole has.
use Prim.Native.Nat.{ℕ, ◌+◌, ◌-◌, ◌*◌, ◌≤◌, ◌<◌}
use native.Mathlib.Omega.{arith}
use mathlib.Core.Path.{◌≡◌, refl, ◌∙◌, ap}
use mathlib.Core.List.{List}
use lib.ListN.{length}
use lib.Seq.{length-sets}
use Rattle.paper.specs.Code.{Instruction, instruction_size}
use Rattle.paper.specs.Translating.{code_of}
use Rattle.paper.specs.Blocks.{encode_all}
use Rattle.keys.specs.Says.{keys_in}
use Rattle.trees.specs.declared.node.Node.TheVariants.{Before, Between}
use Rattle.trees.specs.declared.node.Prefix as N
use Rattle.trees.specs.declared.node.Join.{Join}
use Rattle.trees.specs.declared.node.Comparison.{Comparison}
use Rattle.trees.specs.declared.node.Operator.{Operator}
use Rattle.trees.specs.declared.node.Operator.TheVariants.{Joins, Compares}
use Rattle.trees.specs.Nodes.{node_at}
use Rattle.trees.specs.Standing.{tree_at}
use Rattle.trees.proofs.Walks.{below}
use Rattle.typing.specs.Known.{Known}
use Rattle.typing.proofs.Knowing.{operand_known, left_known, right_known}
use Rattle.translating.specs.Own.{own_at, skips_at}
use Rattle.translating.specs.Writing.{Room, Writes, Wrote, change_meant, Changing}
use Rattle.translating.specs.declared.change.Changes.{Changes}
use Rattle.translating.proofs.Parted.{left_change, right_change, prefixed_length}
use Rattle.translating.proofs.Written.{skip_length, joined_length, compared_length, compared_written}

-- what is written leaves the slice as long as it was
kept : {s t : List ℕ} {i j : ℕ} {xs : List Instruction} → Wrote s i xs t j → length t ≡ length s
kept {s} {i = i} {xs = xs} w = ap length w.stored ∙ length-sets s (instruction_size * i) (encode_all xs)

-- operands stand below their operator

pub operand_below : (nodes : List ℕ) (at : ℕ) {o : N.Prefix} → Before o ≡ node_at nodes at → 0 < at
operand_below nodes at e = below nodes at _ e

pub left_below : (nodes : List ℕ) (at : ℕ) {left : ℕ} {o : Operator} → Between o left ≡ node_at nodes at → left < at
left_below nodes at e = below nodes at _ e

pub both_in_nodes : (nodes : List ℕ) (at : ℕ) {left : ℕ} {o : Operator} → Between o left ≡ node_at nodes at → at * 8 + 8 ≤ length nodes
    → (left * 8 + 8 ≤ length nodes) × ((at - 1) * 8 + 8 ≤ length nodes)
both_in_nodes nodes at e h = let l = left_below nodes at e in (omega arith, omega arith)

-- an operator before its operand
module _ {list nodes code text : List ℕ} {at i : ℕ} {o : N.Prefix} (e : Before o ≡ node_at nodes at) (w : Writes list nodes code at i text) where
  lengths_before : length (code_of (keys_in list) (tree_at text nodes at)) ≡ length (code_of (keys_in list) (tree_at text nodes (at - 1))) + length (own_at nodes at)
  lengths_before = prefixed_length list nodes at text o e w.known

  pub operand_writes : Writes list nodes code (at - 1) i text
  operand_writes = record { known = operand_known list nodes at text o e w.known; room = omega (arith, w.room, lengths_before) }

  pub prefix_room : {t : List ℕ} {a : ℕ} → Wrote code i (code_of (keys_in list) (tree_at text nodes (at - 1))) t a → Room t a (own_at nodes at)
  prefix_room operand = omega (arith, w.room, operand.next, kept operand, lengths_before)

-- a join
module _ {list nodes code text : List ℕ} {at left i : ℕ} {o : Join} (e : Between (Joins o) left ≡ node_at nodes at) (w : Writes list nodes code at i text) where
  abbrev part : ℕ → List Instruction
  part j = code_of (keys_in list) (tree_at text nodes j)

  lengths : length (part at) ≡ length (part left) + 1 + length (part (at - 1)) + length (own_at nodes at)
  lengths = joined_length list nodes at text left o e w.known

  pub first_writes : Writes list nodes code left i text
  first_writes = record { known = left_known list nodes at text (Joins o) left e w.known; room = omega (arith, w.room, lengths) }

  module _ {t : List ℕ} {a : ℕ} (first : Wrote code i (part left) t a) where
    -- the place of the skip is one of the whole's
    pub place_fits : instruction_size * (a + 1) ≤ length code
    place_fits = omega (arith, w.room, first.next, lengths)

    pub second_writes : Writes list nodes t (at - 1) (a + 1) text
    second_writes =
        record {
          known = right_known list nodes at text (Joins o) left e w.known;
          room = omega (arith, w.room, first.next, kept first, lengths);
        }

    module _ {u : List ℕ} {b : ℕ} (second : Wrote t (a + 1) (part (at - 1)) u b) where
      pub join_room : Room u b (own_at nodes at)
      join_room = omega (arith, w.room, first.next, kept first, second.next, kept second, lengths)

      -- however far the skip reaches
      pub skip_room : {v : List ℕ} {end : ℕ} → Wrote u b (own_at nodes at) v end → (over : ℕ) → Room v a (skips_at nodes at over)
      skip_room own over = omega (arith, join_room, second.next, kept own, skip_length list nodes at text left o e w.known over)

-- a comparison
module _ {list nodes code text : List ℕ} {at left i : ℕ} {o : Comparison} (e : Between (Compares o) left ≡ node_at nodes at) (w : Writes list nodes code at i text) where
  abbrev code_at : ℕ → List Instruction
  code_at j = code_of (keys_in list) (tree_at text nodes j)

  abbrev pub left_is : Known list nodes left text
  left_is = left_known list nodes at text (Compares o) left e w.known

  abbrev pub right_is : Known list nodes (at - 1) text
  right_is = right_known list nodes at text (Compares o) left e w.known

  pub left_writes : Writes list nodes code left i text
  left_writes = record { known = left_is; room = omega (arith, w.room, compared_length list nodes at text left o e w.known refl refl) }

  -- what was told of the operands' conversions
  abbrev pub Told : Changes → Type 0
  Told c = (l : Known list nodes left text) (m : Known list nodes (at - 1) text) → Changing l.type m.type c

  module _ {x y : Changes} (for_left : Told x) (for_right : Told y) where
    left_converts : change_meant x.left ≡ left_change list nodes at text (Compares o) left e w.known
    left_converts = (for_left left_is right_is).left

    right_converts : change_meant y.right ≡ right_change list nodes at text (Compares o) left e w.known
    right_converts = (for_right left_is right_is).right

    lengths_between : length (code_at at)
        ≡ length (code_at left) + length (change_meant x.left) + length (code_at (at - 1)) + length (change_meant y.right) + length (own_at nodes at)
    lengths_between = compared_length list nodes at text left o e w.known left_converts right_converts

    pub left_change_room : {t : List ℕ} {a : ℕ} → Wrote code i (code_at left) t a → Room t a (change_meant x.left)
    left_change_room first = omega (arith, w.room, first.next, kept first, lengths_between)

    pub right_writes : {t u : List ℕ} {a b : ℕ} → Wrote code i (code_at left) t a → Wrote t a (change_meant x.left) u b
        → Writes list nodes u (at - 1) b text
    right_writes first changed =
        record { known = right_is; room = omega (arith, w.room, first.next, changed.next, kept first, kept changed, lengths_between) }

    -- there is room for the right operand's conversion and the comparison, when what stands before them is written
    room_left : {t u v : List ℕ} {a b d : ℕ} → Wrote code i (code_at left) t a → Wrote t a (change_meant x.left) u b → Wrote u b (code_at (at - 1)) v d
        → instruction_size * (d + length (change_meant y.right) + length (own_at nodes at)) ≤ length v
    room_left first changed second =
        omega (arith, w.room, first.next, changed.next, second.next, kept first, kept changed, kept second, lengths_between)

    pub right_change_room : {t u v : List ℕ} {a b d : ℕ} → Wrote code i (code_at left) t a → Wrote t a (change_meant x.left) u b
        → Wrote u b (code_at (at - 1)) v d → Room v d (change_meant y.right)
    right_change_room first changed second = omega (arith, room_left first changed second)

    pub own_room : {t u v s : List ℕ} {a b d f : ℕ} → Wrote code i (code_at left) t a → Wrote t a (change_meant x.left) u b
        → Wrote u b (code_at (at - 1)) v d → Wrote v d (change_meant y.right) s f → Room s f (own_at nodes at)
    own_room first changed second converted = omega (arith, room_left first changed second, converted.next, kept converted)

    pub all_written : {t u v s z : List ℕ} {a b d f end : ℕ} → Wrote code i (code_at left) t a → Wrote t a (change_meant x.left) u b
        → Wrote u b (code_at (at - 1)) v d → Wrote v d (change_meant y.right) s f → Wrote s f (own_at nodes at) z end → Wrote code i (code_at at) z end
    all_written = compared_written list nodes at text left o e w.known left_converts right_converts
