-- By what is promised of the call's result; that blocks which agree are ours stands on their being bytes, as all that is lent is.
use Rattle.paper.proofs.DemandOne.{compare_answered}
use Rattle.paper.proofs.DemandTwo.{compare_right}
use Rattle.promises.proofs.Lent.{lent_bytes}
use Rattle.promises.proofs.calls.compare.Goals as goal

pub returns : goal.returns
returns c =
    let t = c.compare in
    let s = lent_bytes c.args.blocks.now c.shared_slice_known-3-1.given in
    record { compare_answered = compare_answered _ _ _ t.result t.ensures; compare_right = compare_right _ _ _ s t.result t.ensures }
