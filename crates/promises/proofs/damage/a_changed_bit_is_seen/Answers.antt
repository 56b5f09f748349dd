use Rattle.paper.proofs.DamageDetected as Theorem
use Rattle.promises.proofs.damage.a_changed_bit_is_seen.Goals as goal

pub returns : goal.returns
returns c = Theorem.bit_seen
