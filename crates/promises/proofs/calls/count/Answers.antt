-- By what is promised of the call's result, and of the numbers of the parts at its exit.
use Rattle.paper.proofs.DemandOne.{count_answered}
use Rattle.paper.proofs.DemandTwo.{count_right}
use Rattle.promises.specs.Held.{counted_to}
use Rattle.promises.proofs.calls.count.Goals as goal

pub returns : goal.returns
returns c =
    let t = c.count in
    let r = counted_to t.result t.new.parts in
    record { count_answered = count_answered _ _ _ _ r t.ensures; count_right = count_right _ _ _ _ r t.ensures }
