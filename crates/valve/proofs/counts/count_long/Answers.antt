-- `valve::count_long` meets its contract: the refusal of text or list, which leaves the numbers (`text_refused`), or the numbers by the parts
-- (`count_by`).
use Rattle.paper.proofs.PassedUp.{passed_up}
use Rattle.reading.proofs.Parted.{not_parted, passed}
use Rattle.valve.proofs.Tallies.{text_refused}
use Rattle.valve.proofs.counts.count_long.Goals as goal

pub returns-in_err-n : goal.returns-in_err-n
returns-in_err-n c =
    let r = c.restrict_parts in
    rw (passed_up _ c.from_residual.ensures.1) (text_refused _ _ _ _ _ (not_parted _ _ _ _ r.result r.ensures c.in_err-n.was))

pub count_by-requires : goal.count_by-requires
count_by-requires c =
    let r = c.restrict_parts in
    (_, passed _ _ _ _ r.result r.ensures c.in_ok-n.was)

pub returns : goal.returns
returns c =
    let r = c.restrict_parts in
    c.count_by.ensures _ (passed _ _ _ _ r.result r.ensures c.in_ok-n.was)
