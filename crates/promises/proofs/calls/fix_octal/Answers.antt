-- By what is promised of the call's result, and of the buffer at its exit.
use Rattle.paper.proofs.DemandOne.{fix_answered}
use Rattle.paper.proofs.FixDemands.{fixes_right}
use Rattle.promises.specs.Held.{fixed_to}
use Rattle.promises.proofs.calls.fix_octal.Goals as goal

pub returns : goal.returns
returns c =
    let t = c.fix_octal in
    let r = fixed_to t.result t.new.buffer in
    record { fix_answered = fix_answered _ _ r t.ensures; fixes_right = fixes_right _ _ r t.ensures }
