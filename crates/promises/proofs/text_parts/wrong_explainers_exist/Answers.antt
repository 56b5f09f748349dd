use Rattle.tried.proofs.WrongExplainersExist as Theorem
use Rattle.promises.proofs.text_parts.wrong_explainers_exist.Goals as goal

pub returns : goal.returns
returns c = Theorem.wrong_explainers_exist
