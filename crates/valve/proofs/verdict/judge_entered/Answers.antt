-- `valve::judge_entered` meets its contract: whether the tree is true on the entry (`judged_by`).
use mathlib.Core.Path.{◌∙◌}
use Rattle.valve.proofs.Verdicts.{judged_by}
use Rattle.valve.proofs.verdict.judge_entered.Goals as goal

pub returns : goal.returns
returns c text passed =
    c.verdict.ensures ∙ judged_by _ _ _ _ _ passed c.requires.conforming _ (c.holds.ensures text passed.typed.checked passed.typed.marked)
