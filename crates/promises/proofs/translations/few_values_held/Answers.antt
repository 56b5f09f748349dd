use Rattle.paper.proofs.ValuesHeld as Theorem
use Rattle.promises.proofs.translations.few_values_held.Goals as goal

pub returns : goal.returns
returns c = Theorem.few_held
