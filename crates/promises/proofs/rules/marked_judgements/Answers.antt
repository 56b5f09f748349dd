use Rattle.tried.proofs.MarkedJudgements as Theorem
use Rattle.promises.proofs.rules.marked_judgements.Goals as goal

pub returns : goal.returns
returns c = Theorem.marked
