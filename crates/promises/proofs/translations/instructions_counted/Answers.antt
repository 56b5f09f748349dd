use Rattle.paper.proofs.CodeLength as Theorem
use Rattle.promises.proofs.translations.instructions_counted.Goals as goal

pub returns : goal.returns
returns c = Theorem.code_counted
