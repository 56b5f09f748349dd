-- `translating::in_first_byte` meets its contract: the highest limb of the constant holds the first byte in its own highest byte.
use Rattle.number.specs.Values.{value}
use Rattle.translating.proofs.put.in_first_byte.Goals as goal

pub returns-then-b : goal.returns-then-b
unfolding value
returns-then-b c = rw c.if-b.true
