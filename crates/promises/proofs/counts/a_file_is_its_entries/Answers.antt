use Rattle.paper.proofs.EntriesLaid as Theorem
use Rattle.promises.proofs.counts.a_file_is_its_entries.Goals as goal

pub returns : goal.returns
returns c = Theorem.file_is_its_entries
