-- By what is promised of the call's result, and of the buffer at its exit.
use Rattle.paper.proofs.DemandOne.{draft_answered}
use Rattle.paper.proofs.DraftDemands.{drafts_right}
use Rattle.promises.specs.Held.{drafted_to}
use Rattle.promises.proofs.calls.pact.Goals as goal

pub returns : goal.returns
returns c =
    let t = c.pact in
    let r = drafted_to t.result t.new.buffer in
    record { draft_answered = draft_answered _ _ _ _ r t.ensures; drafts_right = drafts_right _ _ _ _ r t.ensures }
