-- No bit is set, and the mark is not.
use mathlib.Core.Path.{refl, sym}
use Rattle.paper.proofs.KeySets.{none_set}
use Rattle.summarizing.proofs.set.nothing.Goals as goal

pub returns : goal.returns
returns c = record { keys = sym none_set; priority = refl }
