-- `comparing::write_parts` meets its contract. The invariant of its loop (`Reached`): the first k parts stand in the scratch, the next begins after
-- them, and the rest has room. Each turn writes one more behind them (`reached_one`).
use Prim.Native.Nat.{ℕ, ◌+◌, ◌<◌}
use native.Mathlib.Omega.{arith}
use mathlib.Core.Path.{sym, subst, ◌∙◌}
use mathlib.Core.List.{List}
use lib.ListN.{length, length-set}
use Rattle.paper.specs.Code.{Instruction}
use Rattle.paper.specs.Translating.{code_of}
use Rattle.paper.specs.Comparing.{as_joined}
use Rattle.keys.specs.Says.{keys_in}
use Rattle.trees.specs.Standing.{tree_at}
use Rattle.parts.specs.Rows.{root_at}
use Rattle.reading.specs.Parted.{Parted}
use Rattle.translating.specs.Writing.{WritesJoined, Wrote}
use Rattle.comparing.specs.Scratch.{code_at, Roomy}
use Rattle.comparing.proofs.Known.{part_known}
use Rattle.comparing.proofs.Stored.{Reached, room_here, reached_one}
use Rattle.comparing.proofs.scratch.write_parts.Goals.{After-root_at-root}
use Rattle.comparing.proofs.scratch.write_parts.Goals as goal

-- a text whose parts the rows have, and for whose codes there is room
abbrev Parts : After-root_at-root → List ℕ → Type 0
Parts s text = Parted text s.args.list.now s.args.nodes.now s.args.rows.now s.args.n

abbrev Rooms : After-root_at-root → List ℕ → Type 0
Rooms s text = Roomy text s.args.list.now s.args.nodes.now s.args.rows.now s.args.n s.args.code.now

abbrev codes : After-root_at-root → List ℕ → ℕ → List Instruction
codes s text = code_at text s.args.list.now s.args.nodes.now s.args.rows.now

reached : (c : After-root_at-root) (text : List ℕ) → Parts c text → Rooms c text
    → Reached c.loop-k.code c.loop-k.starts c.args.n (codes c text) c.loop-k.k c.loop-k.at
reached c text parted room = c.loop-k.invariant.2 text parted room

-- room for all, in the scratch as it is now
room_now : (c : After-root_at-root) (text : List ℕ) → Rooms c text → Roomy text c.args.list.now c.args.nodes.now c.args.rows.now c.args.n c.loop-k.code
room_now c text room = omega (arith, room, c.loop-k.invariant.0)

writes : (c : After-root_at-root) (text : List ℕ) → Parts c text → Rooms c text
    → WritesJoined c.args.list.now c.args.nodes.now c.loop-k.code c.root_at-root.result c.loop-k.at text
writes c text parted room =
    let more = c.loop-k-test.true in
    subst (λ (i : ℕ). WritesJoined c.args.list.now c.args.nodes.now c.loop-k.code i c.loop-k.at text) (sym c.root_at-root.ensures)
    (record {
      known = part_known text c.args.list.now c.args.nodes.now (root_at c.args.rows.now c.loop-k.k) (parted.each c.loop-k.k more);
      room = room_here (reached c text parted room) (room_now c text room) more;
    })

pub write_joined-at-requires : goal.write_joined-at-requires
write_joined-at-requires c =
    let text = c.requires.by_index.0 in
    let (parted, room) = c.requires.by_index.1 in
    (omega (arith, (parted.each c.loop-k.k c.loop-k-test.true).has, c.root_at-root.ensures), (text, writes (goal.at.write_joined-at-requires c).After-root_at-root text parted room))

wrote : (t : After-root_at-root) {after : List ℕ} {end : ℕ} → ((text : List ℕ) → WritesJoined t.args.list.now t.args.nodes.now t.loop-k.code t.root_at-root.result t.loop-k.at text
    → Wrote t.loop-k.code t.loop-k.at (as_joined (code_of (keys_in t.args.list.now) (tree_at text t.args.nodes.now t.root_at-root.result))) after end)
    → (text : List ℕ) → Parts t text → Rooms t text → Wrote t.loop-k.code t.loop-k.at (as_joined (codes t text t.loop-k.k)) after end
wrote t {after} {end} says text parted room =
    subst
    (λ (i : ℕ). Wrote t.loop-k.code t.loop-k.at (as_joined (code_of (keys_in t.args.list.now) (tree_at text t.args.nodes.now i))) after end)
    t.root_at-root.ensures (says text (writes t text parted room))

pub overflow_cast-starts : goal.overflow_cast-starts
overflow_cast-starts c =
    let t = (goal.at.overflow_cast-starts c).After-root_at-root in
    let text = c.requires.by_index.0 in
    let (parted, room) = c.requires.by_index.1 in
    let next = (wrote t c.write_joined-at.ensures text parted room).next in
    omega (arith, next, room_here (reached t text parted room) (room_now t text room) c.loop-k-test.true, c.loop-k.invariant.0, c.requires.n_in_bounds.1)

pub loop-k-preserved : goal.loop-k-preserved
loop-k-preserved c =
    let t = (goal.at.loop-k-preserved c).After-root_at-root in
    let wide : c.loop-k.k + 1 < length c.loop-k.starts =
    omega (arith, c.loop-k-test.true, c.loop-k.invariant.1, c.requires.n_in_bounds.0, length-set c.args.starts.now 0 0)
    in (
      omega (arith, c.write_joined-at.auto, c.loop-k.invariant.0),
      length-set c.loop-k.starts (c.loop-k.k + 1) c.write_joined-at.result ∙ c.loop-k.invariant.1,
      λ text parted room.
          reached_one (reached t text parted room) (room_now t text room) c.loop-k-test.true _ c.write_joined-at.result
          (wrote t c.write_joined-at.ensures text parted room) wide,
    )
