use Rattle.paper.proofs.DamageDetected as Theorem
use Rattle.promises.proofs.damage.a_changed_byte_is_seen.Goals as goal

pub returns : goal.returns
returns c = Theorem.byte_seen
