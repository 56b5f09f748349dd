-- By what is promised of the call's result, and of the answers at its exit.
use Rattle.paper.proofs.DemandOne.{run_all_answered}
use Rattle.paper.proofs.DemandTwo.{run_all_right}
use Rattle.promises.specs.Held.{ran_over}
use Rattle.promises.proofs.calls.run_all.Goals as goal

pub returns : goal.returns
returns c =
    let t = c.run_all in
    let r = ran_over t.result t.new.answers in
    record { run_all_answered = run_all_answered _ _ _ _ r t.ensures; run_all_right = run_all_right _ _ _ _ r t.ensures }
