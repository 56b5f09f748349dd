-- A string of so many parts is read from all its parts (`whole_good`).
use Rattle.addresses.specs.Reads.{scheme, parts_of}
use Rattle.addresses.proofs.Wholes.{whole_good}
use Rattle.addresses.proofs.groups.whole.Goals as goal

pub returns-then-all-wanted : goal.returns-then-all-wanted
returns-then-all-wanted c =
    let kind = scheme c.args.kind in
    let grouped = rw c.zero.ensures at c.in_ok-all.ensures in
    whole_good kind c.args.wanted (parts_of kind c.args.string.now) _ c.in_ok-all.all grouped c.requires c.if-all-wanted.true
