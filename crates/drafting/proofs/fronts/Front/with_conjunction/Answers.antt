-- `drafting::fronts::Front::with_conjunction` meets its contract: a conjunction stands behind a clause and no other conjunction, or is a fault.
use Rattle.drafting.proofs.Clauses.{conjoined}
use Rattle.drafting.proofs.fronts.Front.with_conjunction.Goals as goal

pub returns : goal.returns
returns c list table ns at f h =
    let a = c.args in
    conjoined list table ns a.self f h at a.j _ c.in-Some.is c.in-None.is
