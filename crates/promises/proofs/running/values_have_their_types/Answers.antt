use Rattle.paper.proofs.TypeSoundness as Theorem
use Rattle.promises.proofs.running.values_have_their_types.Goals as goal

pub returns : goal.returns
returns c = Theorem.values_have_types
