use Rattle.paper.proofs.DraftDemands as Theorem
use Rattle.promises.proofs.contracts.an_empty_contract_is_true.Goals as goal

pub returns : goal.returns
returns c = Theorem.empty_gives_true
