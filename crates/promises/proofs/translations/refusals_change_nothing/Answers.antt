use Rattle.paper.proofs.TranslationCorrect as Theorem
use Rattle.promises.proofs.translations.refusals_change_nothing.Goals as goal

pub returns : goal.returns
returns c = Theorem.refused_unchanged
