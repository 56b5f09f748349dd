use Rattle.paper.proofs.ContractRead as Theorem
use Rattle.promises.proofs.contracts.contracts_are_their_bytes.Goals as goal

pub returns : goal.returns
returns c = Theorem.contracts_read
