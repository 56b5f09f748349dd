-- The arm of a skip answers what the parts are read as, since its test is that they spell it.
use Rattle.std.proofs.Common.{sym, ap, ◌∙◌}
use Rattle.number.specs.Values.{value}
use Rattle.machine.specs.Decoded.{read_meant}
use Rattle.machine.proofs.Decoded.{reads_skip, first_byte_lem, meant_when}
use Rattle.machine.proofs.decoding.Parts.instruction.Goals as goal

pub returns-in-13 : goal.returns-in-13
returns-in-13 c =
    let p = c.args.self in
    let zero = c.is_zero-no_constant in
    let one = first_byte_lem p.constant c.equal-to.ensures in
    rw c.in-13.is
    (ap read_meant c.then_some-in-13.ensures ∙ meant_when _ _
    ∙ sym (reads_skip c.args.left p.detail p.operand (value p.constant) zero.result zero.ensures c.equal-to.result one))
