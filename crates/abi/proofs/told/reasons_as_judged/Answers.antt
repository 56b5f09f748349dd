-- An explanation tells the judgement, which one result has.
use Prim.Native.Nat.{ℕ}
use mathlib.Core.Path.{◌≡◌, refl, sym, ap, ◌∙◌}
use mathlib.Core.List.{List}
use Rattle.paper.specs.Answers.{judgement_says}
use Rattle.paper.specs.Explained.{Reason, in_part, at_key, nothing_to_show, explanation_says}
use Rattle.paper.specs.ExplainedRight.{judgement_of}
use Rattle.paper.proofs.ExplainedRight.{explained_as_judged}
use Rattle.abi.specs.Told.{judged, reasoned, answer_in, ReasonsAsJudged}
use Rattle.abi.proofs.told.reasons_as_judged.Goals as goal

answer_in_lem : (r : Reason) → answer_in (reasoned r) ≡ judged (judgement_of r)
answer_in_lem (in_part n at s) = refl
answer_in_lem (at_key at k s) = refl
answer_in_lem (nothing_to_show a) = refl

as_judged : ReasonsAsJudged
as_judged text list entry r a t u =
    let told : judgement_of (explanation_says t.result) ≡ judgement_says u.result =
    ap judgement_of t.promised ∙ explained_as_judged text list entry ∙ sym u.promised
    in
    ap answer_in t.same ∙ answer_in_lem (explanation_says t.result) ∙ ap judged told ∙ sym u.same

pub returns : goal.returns
returns c = as_judged
