use Rattle.paper.proofs.CodeCorrect as Theorem
use Rattle.promises.proofs.translations.code_pushes_a_value.Goals as goal

pub returns : goal.returns
returns c = Theorem.code_pushes_value
