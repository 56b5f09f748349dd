-- `counting::add_entry` meets its contract: an entry that does not conform is refused, whatever the tree (`one_refused`); of one that conforms the parts
-- decide (`one_judged`).
use Rattle.counting.proofs.OneEntry.{conforming, one_refused, one_judged}
use Rattle.counting.proofs.entries.add_entry.Goals as goal

pub add_false-requires : goal.add_false-requires
add_false-requires c =
    let x = c.check_entry in
    let given = c.requires.by_index in
    record {
      conforming = conforming _ _ x.result x.ensures given.1.rooted.listed c.in-Ok.is;
      by_index = (given.0, given.1.parted);
      spare = c.requires.spare;
    }

pub returns-in_default : goal.returns-in_default
returns-in_default c text p =
    let x = c.check_entry in
    let a = c.args in
    one_refused a.list.now a.entry.now x.result x.ensures text a.nodes.now a.rows.now a.n p.root a.counts.now c.refusal.result c.in_default.is c.refusal.ensures

pub returns : goal.returns
returns c text p =
    let x = c.check_entry in
    let (grew, all) = c.add_false.ensures text p.parted in
    one_judged _ _ (conforming _ _ x.result x.ensures p.rooted.listed c.in-Ok.is) text _ _ _ p _ _ _ _ grew all c.verdict.ensures
