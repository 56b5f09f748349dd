use Rattle.paper.proofs.TranslationCorrect as Theorem
use Rattle.promises.proofs.running.loaded_blocks_answer.Goals as goal

pub returns : goal.returns
returns c = Theorem.loaded_answers
