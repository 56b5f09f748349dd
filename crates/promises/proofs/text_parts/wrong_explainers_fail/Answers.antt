use Rattle.tried.proofs.WrongExplainers as Theorem
use Rattle.promises.proofs.text_parts.wrong_explainers_fail.Goals as goal

pub returns : goal.returns
returns c = Theorem.wrong_explainers_fail
