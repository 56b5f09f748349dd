use Rattle.paper.proofs.KeyLists as Theorem
use Rattle.promises.proofs.contracts.names_are_keys.Goals as goal

pub returns : goal.returns
returns c = Theorem.names_are_keys
