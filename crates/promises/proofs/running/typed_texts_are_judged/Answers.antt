use Rattle.paper.proofs.TypeSoundness as Theorem
use Rattle.promises.proofs.running.typed_texts_are_judged.Goals as goal

pub returns : goal.returns
returns c = Theorem.judged
