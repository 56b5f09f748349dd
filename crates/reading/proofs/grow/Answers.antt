-- `reading::grow` meets its contract: what stopped the tokens stops the tree (`stops`), or the answer of `plant`.
use Rattle.paper.proofs.PassedUp.{passed_up}
use Rattle.reading.proofs.Planted.{stops}
use Rattle.reading.proofs.grow.Goals as goal

pub returns-in_err-count-clause-settled : goal.returns-in_err-count-clause-settled
returns-in_err-count-clause-settled c =
    rw (passed_up _ c.from_residual.ensures.1) (stops _ _ c.args.tokenized c.requires.cut_on c.args.nodes.now _ c.in_err-count.was)
