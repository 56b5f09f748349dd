-- `valve::summary_of` meets its contract: what the tree at the root names (`summed_up`), whose words the nodes have.
use Rattle.reading.proofs.Stages.{root_known}
use Rattle.valve.proofs.Summaries.{summed_up}
use Rattle.valve.proofs.summary.summary_of.Goals as goal

pub returns : goal.returns
returns c text list r =
    summed_up _ _ _ _ r c.summary_at.result (c.summary_at.ensures _ _ (root_known _ _ _ _ r))
