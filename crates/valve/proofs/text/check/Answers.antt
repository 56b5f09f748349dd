-- `valve::check` meets its contract: the answer of a check is what `with_root` answers, without the root (`not_checked`, `is_checked`).
use Rattle.paper.specs.Promised.{CheckPromised}
use Rattle.valve.proofs.Rooting.{by_root}
use Rattle.valve.proofs.Texts.{not_checked, is_checked}
use Rattle.valve.proofs.text.check.Goals as goal

pub returns : goal.returns
returns c =
    by_root _ _ _ (CheckPromised c.args.text.now c.args.list.now) c.with_root.result c.with_root.ensures
    (λ a f. is_checked _ _ f.rooted.passed)
    (λ v e. not_checked _ _ v e)
