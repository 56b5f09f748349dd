use Rattle.tried.proofs.TokenExamples as Theorem
use Rattle.promises.proofs.rules.examples_of_tokens.Goals as goal

pub returns : goal.returns
returns c = Theorem.token_examples
