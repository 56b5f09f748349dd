use Rattle.paper.proofs.PrintReadsBack as Theorem
use Rattle.promises.proofs.prints.no_parenthesis_to_spare.Goals as goal

pub returns : goal.returns
returns c = Theorem.nothing_to_spare
