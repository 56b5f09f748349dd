use Rattle.paper.proofs.Ranges as Theorem
use Rattle.promises.proofs.numbers.one_value_conforms.Goals as goal

pub returns : goal.returns
returns c = Theorem.one_value_conforms
