-- The processor counts the ones, and of a set they are as many as its keys (`ones_count`).
use mathlib.Core.Path.{refl, ap, ◌∙◌}
use lib.Count.{ones}
use Rattle.paper.proofs.KeySets.{ones_count}
use Rattle.summarizing.proofs.set.count_keys.Goals as goal

pub returns : goal.returns
returns c = record { counted = refl; named = λ p e. ap ones e ∙ ones_count p }
