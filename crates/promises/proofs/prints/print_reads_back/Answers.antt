use Rattle.paper.proofs.PrintReadsBack as Theorem
use Rattle.promises.proofs.prints.print_reads_back.Goals as goal

pub returns : goal.returns
returns c = Theorem.print_reads_back
