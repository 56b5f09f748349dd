use Rattle.paper.proofs.Required as Theorem
use Rattle.promises.proofs.required.required_keys_are_present.Goals as goal

pub returns : goal.returns
returns c = Theorem.must_be_present
