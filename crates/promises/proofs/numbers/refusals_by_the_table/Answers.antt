use Rattle.paper.proofs.Table as Theorem
use Rattle.promises.proofs.numbers.refusals_by_the_table.Goals as goal

pub returns : goal.returns
returns c = Theorem.table_holds
