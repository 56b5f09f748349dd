use Rattle.paper.proofs.PrintReadsBack as Theorem
use Rattle.promises.proofs.prints.clean_trees_read_back.Goals as goal

pub returns : goal.returns
returns c = Theorem.clean_print_reads
