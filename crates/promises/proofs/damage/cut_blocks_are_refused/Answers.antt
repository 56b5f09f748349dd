use Rattle.paper.proofs.DamageDetected as Theorem
use Rattle.promises.proofs.damage.cut_blocks_are_refused.Goals as goal

pub returns : goal.returns
returns c = Theorem.cut_refused
