use Rattle.paper.proofs.Required as Theorem
use Rattle.promises.proofs.required.only_the_flag_is_new.Goals as goal

pub returns : goal.returns
returns c = Theorem.only_the_flag
