-- `drafting::fronts::put_link` meets its contract: the link is put behind the clause and the assertion, and "!" behind that where it is asked for.
use Rattle.drafting.proofs.Growing.{grown_then}
use Rattle.drafting.proofs.fronts.put_link.Goals as goal

pub returns : goal.returns
returns c list first t u h g =
    let linked = c.joined-joined.ensures.grown list first t u h g in
    rw (← c.link_of.ensures t u)
    (grown_then list linked (c.inverted.ensures.grown list first _ linked.holds))
