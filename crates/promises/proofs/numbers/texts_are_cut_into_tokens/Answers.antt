use Rattle.paper.proofs.TokenFaults as Theorem
use Rattle.promises.proofs.numbers.texts_are_cut_into_tokens.Goals as goal

pub returns : goal.returns
returns c = Theorem.tokens_are_cut
