use Rattle.paper.proofs.TranslationCorrect as Theorem
use Rattle.promises.proofs.translations.checked_texts_translate.Goals as goal

pub returns : goal.returns
returns c = Theorem.checked_translates
