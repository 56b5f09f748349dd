use Rattle.paper.proofs.OthersStay as Theorem
use Rattle.promises.proofs.octal.other_texts_stay.Goals as goal

pub returns : goal.returns
returns c = Theorem.others_stay
