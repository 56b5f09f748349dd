-- `parts::left_of` meets its contract: the operand that the node names, or the first node (`left_is`).
use Rattle.parts.proofs.Roots.{left_is}
use Rattle.parts.proofs.spine.left_of.Goals as goal

pub returns-in-Between : goal.returns-in-Between
returns-in-Between c = left_is _ _ _ c.in-Between.ensures
