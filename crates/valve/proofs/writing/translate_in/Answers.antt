-- `valve::translate_in` meets its contract: the code of the tree fits the scratch that is lent (`writes`), a buffer below the blocks needed is refused and kept
-- (`refusing`), a larger one is filled with them (`filling`).
use Prim.Native.Nat.{ℕ, ◌+◌, ◌*◌, ◌<◌, ◌≤◌}
use native.Mathlib.Omega.{arith}
use mathlib.Core.Path.{subst}
use mathlib.Core.List.{List}
use lib.ListN.{length}
use borrow.Author.Rules.{rules}
use Rattle.reading.specs.Restricted.{Rooted}
use Rattle.valve.specs.Scratch.{per_node}
use Rattle.valve.proofs.Translates.{count_by_nodes, writes, refusing, filling}
use Rattle.valve.proofs.writing.translate_in.Goals as goal

-- a text that passed, whose tree stands at the node; and room for its code
abbrev some_text : goal.After-write_code-arg-1 → List ℕ
some_text s = s.requires.by_index.0

abbrev rooted : (s : goal.After-write_code-arg-1) → Rooted (some_text s) s.args.list.now s.args.nodes.now s.args.root
rooted s = s.requires.by_index.1

abbrev room : (s : goal.After-write_code-arg-1) → per_node * (s.args.root + 1) ≤ length s.args.code.now
room s = s.requires.root_in_bounds_2

pub write_code-n-requires : goal.write_code-n-requires
write_code-n-requires c =
    (c.requires.root_in_bounds, (some_text c, writes (some_text c) c.args.list.now c.args.nodes.now c.args.buffer.now c.args.root (rooted c) _ (room c)))

-- a text that passed, whose tree stands at the node; and room for its code
abbrev some_text_2 : goal.After-needed → List ℕ
some_text_2 s = s.requires.by_index.0

abbrev rooted_2 : (s : goal.After-needed) → Rooted (some_text_2 s) s.args.list.now s.args.nodes.now s.args.root
rooted_2 s = s.requires.by_index.1

abbrev room_2 : (s : goal.After-needed) → per_node * (s.args.root + 1) ≤ length s.args.code.now
room_2 s = s.requires.root_in_bounds_2

-- what was written: at most two instructions for each node
written_few : (c : goal.After-needed) → c.write_code-n.result ≤ 2 * (c.args.root + 1)
written_few c =
    let w = c.write_code-n.ensures (some_text_2 c) (writes (some_text_2 c) c.args.list.now c.args.nodes.now c.args.buffer.now c.args.root (rooted_2 c) _ (room_2 c)) in
    count_by_nodes (some_text_2 c) c.args.list.now c.args.nodes.now c.args.buffer.now c.args.root (rooted_2 c) _ _ c.write_code-n.result w

pub overflow_mul-needed : goal.overflow_mul-needed
overflow_mul-needed c = omega (arith, (rooted_2 c).typed.few, written_few c, c.needed.ensures)

abbrev room_3 : (s : goal.Then-buffer-needed) → per_node * (s.args.root + 1) ≤ length s.args.code.now
room_3 s = s.requires.root_in_bounds_2

pub returns-then-buffer-needed : goal.returns-then-buffer-needed
returns-then-buffer-needed c text passed =
    let w = c.write_code-n in
    refusing text c.args.list.now c.args.nodes.now c.args.buffer.now c.args.root passed _ _ w.result
    (w.ensures text (writes text c.args.list.now c.args.nodes.now c.args.buffer.now c.args.root passed _ (room_3 c)))
    (subst (λ (m : ℕ). length c.args.buffer.now < 512 * m) c.needed.ensures c.if-buffer-needed.true)

-- a text that passed, whose tree stands at the node; and room for its code
abbrev some_text_3 : goal.After-write_first-arg-1 → List ℕ
some_text_3 s = s.requires.by_index.0

abbrev rooted_3 : (s : goal.After-write_first-arg-1) → Rooted (some_text_3 s) s.args.list.now s.args.nodes.now s.args.root
rooted_3 s = s.requires.by_index.1

abbrev room_4 : (s : goal.After-write_first-arg-1) → per_node * (s.args.root + 1) ≤ length s.args.code.now
room_4 s = s.requires.root_in_bounds_2

-- what was written: at most two instructions for each node
written_few_2 : (c : goal.After-write_first-arg-1) → c.write_code-n.result ≤ 2 * (c.args.root + 1)
written_few_2 c =
    let w = c.write_code-n.ensures (some_text_3 c) (writes (some_text_3 c) c.args.list.now c.args.nodes.now c.args.buffer.now c.args.root (rooted_3 c) _ (room_4 c)) in
    count_by_nodes (some_text_3 c) c.args.list.now c.args.nodes.now c.args.buffer.now c.args.root (rooted_3 c) _ _ c.write_code-n.result w

pub write_first-requires : goal.write_first-requires
write_first-requires c =
    (omega (arith, written_few_2 c, c.write_code-n.auto, room_4 c), subst (λ (m : ℕ). 512 * m ≤ length c.args.buffer.now) c.needed.ensures (search rules))

abbrev room_5 : (s : goal.After-slice_known-4-1) → per_node * (s.args.root + 1) ≤ length s.args.code.now
room_5 s = s.requires.root_in_bounds_2

pub returns : goal.returns
returns c text passed =
    let w = c.write_code-n in
    filling text c.args.list.now c.args.nodes.now c.args.buffer.now c.args.root passed _ _ w.result
    (w.ensures text (writes text c.args.list.now c.args.nodes.now c.args.buffer.now c.args.root passed _ (room_5 c))) (room_5 c)
    (subst (λ (m : ℕ). 512 * m ≤ length c.args.buffer.now) c.needed.ensures (search rules))
    _ c.write_first.ensures
