-- The room has as many bytes as are copied at most, and what is copied fills as many of them.
use Rattle.std.proofs.Common.{◌≡◌, ℕ, ◌≤◌, List, ap, sym, length, take, arith}
use lib.ListN.{length-take}
use lib.Seq.{length-take-le}
use Rattle.answers.proofs.entries.judge_apart.Goals as goal

few : (held all : List ℕ) → held ≡ take 65536 all → length held ≤ 65536
few held all is = omega (arith, ap length is, length-take 65536 all)

pub fill_start-requires : goal.fill_start-requires
fill_start-requires g c = few _ _ c.start-before.ensures

pub slice_bounds-answers-end : goal.slice_bounds-answers-end
slice_bounds-answers-end g c =
    let held : length c.start-before.result.now ≤ 65536 = few _ _ c.start-before.ensures in
    omega (arith, held, c.fill_start.auto.room)

pub slice_bounds-judge-end : goal.slice_bounds-judge-end
slice_bounds-judge-end g c =
    let held : length c.start-before.result.now ≤ 65536 = few _ _ c.start-before.ensures in
    sym (length-take-le _ _ (omega (arith, held, c.fill_start.auto.room)))
