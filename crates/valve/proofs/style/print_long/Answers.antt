-- `valve::print_long` meets its contract: the refusal of the tree, which leaves the buffer (`not_printed`), or its print (`print_grown`).
use Rattle.paper.proofs.PassedUp.{passed_up}
use Rattle.reading.proofs.Stages.{planted, not_planted}
use Rattle.valve.proofs.Prints.{not_printed}
use Rattle.valve.proofs.style.print_long.Goals as goal

pub returns-in_err-size : goal.returns-in_err-size
returns-in_err-size c =
    rw (passed_up _ c.from_residual.ensures.1)
    (not_printed _ _ c.requires _ (not_planted _ _ c.read_tree.result c.read_tree.ensures c.in_err-size.was))

pub print_grown-requires-clause-planted : goal.print_grown-requires-clause-planted
print_grown-requires-clause-planted c = planted _ _ c.read_tree.result c.read_tree.ensures c.in_ok-size.was
