use Rattle.paper.proofs.SameTokens as Theorem
use Rattle.promises.proofs.octal.same_tokens.Goals as goal

pub returns : goal.returns
returns c = Theorem.same_tokens
