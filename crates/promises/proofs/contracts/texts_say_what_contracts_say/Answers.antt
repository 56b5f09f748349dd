use Rattle.paper.proofs.DraftedRight as Theorem
use Rattle.promises.proofs.contracts.texts_say_what_contracts_say.Goals as goal

pub returns : goal.returns
returns c = Theorem.texts_mean
