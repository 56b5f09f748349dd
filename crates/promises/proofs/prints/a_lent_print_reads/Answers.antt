use Rattle.paper.proofs.PrintReadsBack as Theorem
use Rattle.promises.proofs.prints.a_lent_print_reads.Goals as goal

pub returns : goal.returns
returns c = Theorem.lent_print_reads
