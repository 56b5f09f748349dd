use Rattle.tried.proofs.TranslationExamples as Theorem
use Rattle.promises.proofs.rules.examples_of_translations.Goals as goal

pub returns : goal.returns
returns c = Theorem.translation_examples
