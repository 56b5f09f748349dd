-- `drafting::fronts::put_closed` meets its contract: the first clause is as it is, and any other is joined to those before it.
use Rattle.drafting.proofs.Clauses.{behind_all}
use Rattle.drafting.proofs.fronts.put_closed.Goals as goal

pub returns-in-Some : goal.returns-in-Some
returns-in-Some c list o t h g =
    behind_all list _ _ _ _ c.in-Some.is (c.joined.ensures.grown list 0) o t h g
