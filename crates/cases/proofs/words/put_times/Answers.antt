-- A turn puts one more copy (`put_copy`).
use Rattle.std.proofs.Common.{rules}
use Rattle.cases.proofs.Rooms.{put_copy}
use Rattle.cases.proofs.words.put_times.Goals as goal

pub loop-turn-preserved : goal.loop-turn-preserved
loop-turn-preserved g c =
    let l = c.loop-turn in
    (search rules, put_copy l._turn l.invariant.1 c.in_ok-end.ensures.written)
