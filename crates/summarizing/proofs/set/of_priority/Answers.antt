-- The mark alone.
use mathlib.Core.Path.{refl, sym}
use Rattle.paper.proofs.KeySets.{none_set}
use Rattle.summarizing.proofs.set.of_priority.Goals as goal

pub returns : goal.returns
returns c = record { keys = sym none_set; priority = refl }
