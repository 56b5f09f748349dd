use Rattle.tried.proofs.AnswerExamples as Theorem
use Rattle.promises.proofs.rules.examples_of_answers.Goals as goal

pub returns : goal.returns
returns c = Theorem.answer_examples
