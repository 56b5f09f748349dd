use Rattle.paper.proofs.Offsets as Theorem
use Rattle.promises.proofs.readings.node_places_in_the_text.Goals as goal

pub returns : goal.returns
returns c = Theorem.places_in_text
