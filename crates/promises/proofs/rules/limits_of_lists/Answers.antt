use Rattle.tried.proofs.Limits as Theorem
use Rattle.promises.proofs.rules.limits_of_lists.Goals as goal

pub returns : goal.returns
returns c = Theorem.lists
