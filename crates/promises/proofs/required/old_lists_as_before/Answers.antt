use Rattle.paper.proofs.Required as Theorem
use Rattle.promises.proofs.required.old_lists_as_before.Goals as goal

pub returns : goal.returns
returns c = Theorem.old_lists_as_before
