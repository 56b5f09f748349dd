use Rattle.paper.proofs.TranslationCorrect as Theorem
use Rattle.promises.proofs.translations.translation_carries_the_judgement.Goals as goal

pub returns : goal.returns
returns c = Theorem.translation_carries
