-- `tokens::literal_at` meets its contract: the value of four limbs is that of the four words, and the base that of the last.
use Rattle.number.specs.Values.{value}
use Rattle.tokens.proofs.rows.literal_at.Goals as goal

pub returns : goal.returns
unfolding value
returns c = rw c.of_radix.ensures
