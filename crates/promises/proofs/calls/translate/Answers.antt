-- By what is promised of the call's result, and of the buffer at its exit.
use Rattle.paper.proofs.DemandOne.{translate_answered}
use Rattle.paper.proofs.DemandTwo.{translated_right}
use Rattle.promises.specs.Held.{gave}
use Rattle.promises.proofs.calls.translate.Goals as goal

pub returns : goal.returns
returns c =
    let t = c.translate in
    let r = gave t.result t.new.buffer in
    record { translate_answered = translate_answered _ _ _ r t.ensures; translated_right = translated_right _ _ _ r t.ensures }
