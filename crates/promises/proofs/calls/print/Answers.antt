-- By what is promised of the call's result, and of the buffer at its exit.
use Rattle.paper.proofs.DemandOne.{print_answered}
use Rattle.paper.proofs.PrintDemands.{printed_right}
use Rattle.promises.specs.Held.{lent}
use Rattle.promises.proofs.calls.print.Goals as goal

pub returns : goal.returns
returns c =
    let t = c.print in
    let r = lent t.result t.new.buffer in
    record { print_answered = print_answered _ _ r t.ensures; printed_right = printed_right _ _ r t.ensures }
