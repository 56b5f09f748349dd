use Rattle.paper.proofs.CodeLength as Theorem
use Rattle.promises.proofs.translations.translation_fits.Goals as goal

pub returns : goal.returns
returns c = Theorem.code_fits
