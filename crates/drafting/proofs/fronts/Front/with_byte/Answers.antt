-- `drafting::fronts::Front::with_byte` meets its contract: where no comparator waits the byte is an opcode, else its indices.
use Prim.Native.Nat.{◌/◌}
use mathlib.Core.Path.{sym, ap, ◌∙◌}
use lib.ListN.{length}
use Rattle.drafting.specs.Fronts.{opened_meant}
use Rattle.drafting.proofs.Bytes.{byte_opcode, steps_as}
use Rattle.drafting.proofs.fronts.Front.with_byte.Goals as goal

pub returns-in_default : goal.returns-in_default
returns-in_default c at f h =
    let list = c.args.names.now in
    let table = c.args.table.now in
    let nothing-waits = sym h.opened ∙ ap opened_meant c.in_default.is in
    steps_as list table c.args.nodes.now at c.with_opcode.result (byte_opcode (length list / 80) (length table) at c.args.byte f f.comparator nothing-waits c.in_ok-opcode_of.ensures)
    (c.with_opcode.ensures list table c.args.nodes.now at f h)
