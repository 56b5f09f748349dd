-- `valve::write_first` meets its contract: of the bytes of instructions, the blocks written are the paper's (`paper_blocks`).
use Prim.Native.Nat.{ℕ, ◌*◌}
use mathlib.Core.Path.{ap, ◌∙◌}
use mathlib.Core.List.{List}
use lib.ListN.{take}
use Rattle.paper.specs.Calls.{over}
use Rattle.blocks.proofs.Rows.{paper_blocks}
use Rattle.valve.proofs.writing.write_first.Goals as goal

-- of the bytes of instructions, the blocks written are the paper's
pub returns : goal.returns
returns c is e =
    let a = c.args in
    let same = paper_blocks a.keys (take (a.n * 20) a.code.now) is e in
    c.write_blocks.ensures ∙ ap (λ (b : List ℕ). over b a.buffer.now) same
