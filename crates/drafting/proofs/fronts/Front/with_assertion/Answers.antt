-- `drafting::fronts::Front::with_assertion` meets its contract: the assertion is the first of all, or begins a clause and closes the one before it,
-- or goes on with that (`begins_all`, `closes`, `goes_on`).
use native.Mathlib.Omega.{arith}
use Rattle.drafting.specs.Assertions.{assertion_meant}
use Rattle.drafting.proofs.Clauses.{linkable, all_closed, closes, goes_on}
use Rattle.drafting.proofs.fronts.Front.with_assertion.Goals as goal

pub put_assertion-begun-requires : goal.put_assertion-begun-requires
put_assertion-begun-requires c =
    let list = c.args.names.now in
    let r = c.requires.ready in
    let g = all_closed list c.args.table.now c.args.nodes.now c.args.self r.front r.stands _ c.in-Some.is (c.put_closed-all.ensures list) in
    record { fits = c.requires.fits; at_in_bounds = (omega (arith, g.holds.room, g.kept, r.room), omega (arith, g.holds.room)) }

pub put_link-requires : goal.put_link-requires
put_link-requires c =
    let a = c.args in
    let r = c.requires.ready in
    let both =
    linkable a.names.now a.table.now a.nodes.now a.self r.front r.stands (assertion_meant a.a) _ c.in-Some.is r.room c.put_assertion-next.ensures
    in
    record { operands = both.0; end_in_bounds = both.1 }

pub returns-in-None : goal.returns-in-None
returns-in-None c f h =
    let a = c.args in
    rw c.at-in-None.ensures
    (closes a.names.now a.table.now a.nodes.now a.self f h (assertion_meant a.a) _ c.in-Some.is c.in-None.is
    (c.put_closed-all.ensures a.names.now) c.put_assertion-begun.ensures)

pub returns-in-Some-link : goal.returns-in-Some-link
returns-in-Some-link c f h =
    let a = c.args in
    rw c.at-in-Some-link.ensures
    (goes_on a.names.now a.table.now a.nodes.now a.self f h (assertion_meant a.a) _ c.in-Some.is c.in-Some-link.is
    c.put_assertion-next.ensures (c.put_link.ensures a.names.now))
