-- The parts at the offset of the instruction, decoded.
use Rattle.std.proofs.Common.{ap, ◌∙◌}
use Rattle.paper.specs.Code.{parts_at, decode}
use Rattle.machine.proofs.decoding.instruction_at.Goals as goal

pub returns : goal.returns
returns c =
    c.instruction.ensures ∙ ap (decode c.args.left) (c.at.ensures ∙ ap (parts_at c.args.blocks.now) c.place_of.ensures)
