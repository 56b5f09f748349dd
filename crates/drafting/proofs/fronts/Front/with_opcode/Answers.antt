-- `drafting::fronts::Front::with_opcode` meets its contract: each opcode has its own arm.
use mathlib.Core.Path.{refl}
use mathlib.Core.Option.{some}
use Rattle.drafting.specs.Opcodes.{comparator_meant}
use Rattle.drafting.proofs.fronts.Front.with_opcode.Goals as goal

pub returns-in-Compares : goal.returns-in-Compares
returns-in-Compares c list table ns at f h =
    let o = c.in-Compares.o in
    rw c.in-Compares.is (
      record { closed = f.closed; clause = f.clause; conjunction = f.conjunction; comparator = some (comparator_meant o) },
      (refl, record { closed = h.closed; clause = h.clause; link = h.link; opened = refl; first = h.first }),
    )

pub returns-in-Conjoins : goal.returns-in-Conjoins
returns-in-Conjoins c list table ns at f h =
    rw c.in-Conjoins.is (c.with_conjunction.ensures list table ns at f h)
