use Rattle.paper.proofs.BlocksRoundTrip as Theorem
use Rattle.promises.proofs.translations.blocks_read_back.Goals as goal

pub returns : goal.returns
returns c = Theorem.blocks_back
