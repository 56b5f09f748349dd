-- `reading::plant` meets its contract: the refusal of the grammar (`tree_refused`), or its tree, which the nodes hold (`tree_read`), and the parts,
-- which the rows hold where they have room (`sown`).
use native.Mathlib.Omega.{arith}
use Rattle.paper.proofs.PassedUp.{passed_up}
use Rattle.reading.proofs.Planted.{tree_read, tree_refused}
use Rattle.reading.proofs.Parted.{sown}
use Rattle.reading.proofs.plant.Goals as goal

pub returns-in_err-size-clause-settled : goal.returns-in_err-size-clause-settled
returns-in_err-size-clause-settled c =
    rw (passed_up _ c.from_residual.ensures.1)
    (tt, tree_refused _ _ _ c.requires.counted_on _ _ c.parse.result c.parse.ensures c.in_err-size.was)

pub overflow_sub-size : goal.overflow_sub-size
overflow_sub-size c =
    (tree_read _ _ _ c.requires.counted_on _ _ c.parse.result c.parse.ensures c.in_ok-size.was c.requires.count_in_bounds).some

pub find_parts-found-requires-clause-noded : goal.find_parts-found-requires-clause-noded
find_parts-found-requires-clause-noded c =
    let p = tree_read _ _ _ c.requires.counted_on _ _ c.parse.result c.parse.ensures c.in_ok-size.was c.requires.count_in_bounds in
    record {
      few = omega (arith, p.few, p.some);
      has = omega (arith, p.has, p.some);
    }

pub returns-clause-settled : goal.returns-clause-settled
returns-clause-settled c =
    (tt, tree_read _ _ _ c.requires.counted_on _ _ c.parse.result c.parse.ensures c.in_ok-size.was c.requires.count_in_bounds)

pub returns-clause-sows : goal.returns-clause-sows
returns-clause-sows c =
    let p = tree_read _ _ _ c.requires.counted_on _ _ c.parse.result c.parse.ensures c.in_ok-size.was c.requires.count_in_bounds in
    λ lent. sown _ _ _ c.requires.counted_on _ _ p _ _ (c.find_parts-found.ensures lent)
