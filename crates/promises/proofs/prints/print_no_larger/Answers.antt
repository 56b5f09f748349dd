use Rattle.paper.proofs.PrintReadsBack as Theorem
use Rattle.promises.proofs.prints.print_no_larger.Goals as goal

pub returns : goal.returns
returns c = Theorem.print_no_larger
