use Rattle.tried.proofs.SentenceExamples as Theorem
use Rattle.promises.proofs.rules.examples_of_sentences.Goals as goal

pub returns : goal.returns
returns c = Theorem.sentence_examples
