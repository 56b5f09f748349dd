-- `parts::find` meets its contract: the stretches that `cut` stores and the roots that `name_roots` stores beside them are the parts (`found`).
use Rattle.parts.proofs.Found.{found}
use Rattle.parts.proofs.find.Goals as goal

pub returns : goal.returns
returns c =
    found _ _ _ _ _ _ _ c.cut-n.ensures.says c.name_roots.ensures c.cut-n.ensures.few
