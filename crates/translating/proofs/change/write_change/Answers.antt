-- `translating::write_change` meets its contract: a conversion is one instruction, of its kind's number and its width; where there is none,
-- nothing is written.
use mathlib.Core.Path.{ap, sym}
use Rattle.paper.specs.Keys.{kind_of}
use Rattle.paper.specs.Code.{convert}
use Rattle.translating.specs.Writing.{change_meant}
use Rattle.translating.proofs.Rows.{wrote_as}
use Rattle.translating.proofs.change.write_change.Goals as goal

pub returns : goal.returns
returns c =
    let to = c.in-Some.field-0 in
    wrote_as (sym (ap change_meant c.in-Some.is))
    (c.write.ensures (convert (kind_of to.kind) to.width) (rw (← c.kind_number.ensures, ← c.from.ensures) c.plain-parts.ensures))
