-- `valve::agrees_by` meets its contract: the codes of a text of at most 1,024 nodes fit the scratch (`codes_room`), and what is answered of them is
-- what the paper asks of the parts (`by_rows`).
use Prim.Native.Nat.{ℕ, ◌+◌, ◌*◌, ◌≤◌}
use native.Mathlib.Omega.{arith}
use mathlib.Core.Path.{◌∙◌}
use mathlib.Core.List.{List}
use Rattle.paper.specs.Tokens.{most_tokens}
use Rattle.paper.specs.Code.{instruction_size}
use Rattle.parts.specs.Rows.{each}
use Rattle.reading.specs.Parted.{PassedParts}
use Rattle.comparing.specs.Scratch.{code_at, size_all}
use Rattle.valve.specs.Scratch.{per_node}
use Rattle.valve.proofs.Agreements.{by_rows, codes_room}
use Rattle.valve.proofs.comparison.agrees_by.Goals as goal

abbrev Text : goal.After-starts-1 → List ℕ → Type 0
Text s text = PassedParts text s.args.list.now s.args.nodes.now s.args.rows.now s.args.n

room : (s : goal.After-starts-1) (text : List ℕ) → Text s text
    → instruction_size * size_all (each (code_at text s.args.list.now s.args.nodes.now s.args.rows.now) 0 s.args.n) ≤ per_node * most_tokens + per_node
room s text d =
    let a = s.args in
    codes_room text a.list.now a.nodes.now a.rows.now a.n d (per_node * most_tokens + per_node) (omega (arith, d.rooted.typed.few))

pub write_parts-requires : goal.write_parts-requires
write_parts-requires c =
    let text = c.requires.by_index.0 in
    let d = c.requires.by_index.1 in
    record { n_in_bounds = (omega (arith, d.parted.few), omega arith); by_index = (text, (d.parted, room c text d)) }

abbrev Text_2 : goal.After-starts-3-1 → List ℕ → Type 0
Text_2 s text = PassedParts text s.args.list.now s.args.nodes.now s.args.rows.now s.args.n

room_2 : (s : goal.After-starts-3-1) (text : List ℕ) → Text_2 s text
    → instruction_size * size_all (each (code_at text s.args.list.now s.args.nodes.now s.args.rows.now) 0 s.args.n) ≤ per_node * most_tokens + per_node
room_2 s text d =
    let a = s.args in
    codes_room text a.list.now a.nodes.now a.rows.now a.n d (per_node * most_tokens + per_node) (omega (arith, d.rooted.typed.few))

pub agrees-requires : goal.agrees-requires
agrees-requires c =
    let a = c.args in
    let text = c.requires.by_index.0 in
    let d = c.requires.by_index.1 in
    let parted = d.parted in record { total_bound = (c.requires.count_bound, omega (arith, parted.few), parted.some, parted.few); by_index = (code_at text a.list.now a.nodes.now a.rows.now, c.write_parts.ensures text parted (room_2 c text d)) }

abbrev Text_3 : goal.After-agrees → List ℕ → Type 0
Text_3 s text = PassedParts text s.args.list.now s.args.nodes.now s.args.rows.now s.args.n

room_3 : (s : goal.After-agrees) (text : List ℕ) → Text_3 s text
    → instruction_size * size_all (each (code_at text s.args.list.now s.args.nodes.now s.args.rows.now) 0 s.args.n) ≤ per_node * most_tokens + per_node
room_3 s text d =
    let a = s.args in
    codes_room text a.list.now a.nodes.now a.rows.now a.n d (per_node * most_tokens + per_node) (omega (arith, d.rooted.typed.few))

pub returns : goal.returns
returns c text d =
    let a = c.args in
    c.agrees.ensures (code_at text a.list.now a.nodes.now a.rows.now)
    (c.write_parts.ensures text d.parted (room_3 c text d))
    ∙ by_rows text a.list.now a.nodes.now a.rows.now a.n a.blocks.now a.count
